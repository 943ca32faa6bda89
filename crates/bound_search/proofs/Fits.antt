-- The first fit is the smallest number that fits: by induction on how many numbers were looked at.
use Prim.Native.Nat.{ℕ, zero, suc, ◌≤◌, ◌<◌}
use mathlib.Core.Path.{◌≡◌, refl}
use mathlib.Core.Logic.{◌⊎◌, inl, inr}
use native.Mathlib.Nat.{le_refl, le_trans, le_antisymm}
use native.Mathlib.Decide.{dec_lt, ℕ_discrete}
use native.Mathlib.Omega.{arith}
use borrow.Author.Tests.{le-leb, lt-leb}
use lib.Dec.{leb}
use Rattle.laws.proofs.Tests.{impossible}
use Rattle.std.specs.Prelude.{Some, None}
use Rattle.bound_search.specs.Fits.{Smallest, NoneFits, or_next, first_fit}

-- the smallest is one number
pub smallest_one : (f : ℕ → ℕ) (n r s : ℕ) → Smallest f n r → Smallest f n s → r ≡ s
smallest_one f n r s p q =
    le_antisymm (p.least s q.some q.within q.fits) (q.least r p.some p.within p.fits)

-- where f never falls and never is 0, the smallest fit is met with equality: f r fits too
pub smallest_equal : (f : ℕ → ℕ) → ((a b : ℕ) → a ≤ b → f a ≤ f b) → ((x : ℕ) → 1 ≤ f x) → (n r : ℕ) → Smallest f n r → f r ≡ r
smallest_equal f rise some n r s =
    le_antisymm s.fits (s.least (f r) (some r) (le_trans s.fits s.within) (rise (f r) r s.fits))

module _ (f : ℕ → ℕ) where
  pub fit_none : (n : ℕ) → NoneFits f n → first_fit f n ≡ None
  unfolding first_fit
  fit_none zero h = refl
  fit_none (suc n) h =
      let k = h (suc n) (omega arith) (le_refl (suc n)) in
      rw (fit_none n (λ x p q. h x p (omega arith)), lt-leb (f (suc n)) (suc n) (omega arith))

  pub fit_at : (n r : ℕ) → Smallest f n r → first_fit f n ≡ Some r
  unfolding first_fit
  fit_at zero r s = absurd (omega (arith, s.some, s.within))
  fit_at (suc n) r s = go (ℕ_discrete r (suc n)) (fit_at n r)
    where
      go : Dec (r ≡ suc n) → (Smallest f n r → first_fit f n ≡ Some r) → or_next (first_fit f n) (leb (f (suc n)) (suc n)) (suc n) ≡ Some r
      go (yes e) k =
          let h : f (suc n) ≤ suc n = rw e at s.fits in
          rw (fit_none n (λ x p q d. omega (arith, s.least x p (omega arith) d)), le-leb (f (suc n)) (suc n) h, e)
      go (no e) k =
          rw (k (record { some = s.some; within = omega (arith, s.within); fits = s.fits; least = λ x p q. s.least x p (omega arith) }))

  beyond : (n x : ℕ) → NoneFits f n → 1 ≤ x → f x ≤ x → n < x
  beyond n x h p e = go (dec_lt n x)
    where
      go : Dec (n < x) → n < x
      go (yes q) = q
      go (no q) = absurd (h x p (omega arith) e)

  -- a smallest fit, or none
  look : (n : ℕ) → ((r : ℕ) × Smallest f n r) ⊎ NoneFits f n
  look zero = inr (λ x p q d. omega arith)
  look (suc n) = go (look n) (dec_lt (suc n) (f (suc n)))
    where
      before : (s : (r : ℕ) × Smallest f n r) (x : ℕ) → 1 ≤ x → f x ≤ x → Dec (n < x) → s.0 ≤ x
      before s x p e (yes q) = omega (arith, s.1.within)
      before s x p e (no q) = s.1.least x p (omega arith) e

      go : ((r : ℕ) × Smallest f n r) ⊎ NoneFits f n → Dec (suc n < f (suc n)) → ((r : ℕ) × Smallest f (suc n) r) ⊎ NoneFits f (suc n)
      go (inl s) d =
          inl (s.0, record { some = s.1.some; within = omega (arith, s.1.within); fits = s.1.fits; least = λ x p q e. before s x p e (dec_lt n x) })
      go (inr h) (yes d) =
          inr (λ x p q e. let z : x ≡ suc n = omega (arith, beyond n x h p e) in omega (arith, rw z at e))
      go (inr h) (no d) = inl (suc n, record { some = omega arith; within = le_refl (suc n); fits = omega arith; least = λ x p q e. beyond n x h p e })

  pub fit_at_then : (n r : ℕ) → first_fit f n ≡ Some r → Smallest f n r
  fit_at_then n r e = go (look n)
    where
      go : ((r : ℕ) × Smallest f n r) ⊎ NoneFits f n → Smallest f n r
      go (inl s) =
          let q = fit_at n s.0 s.1 in
          let z : s.0 ≡ r = cc in
          rw z at s.1
      go (inr h) = let q = fit_none n h in impossible cc

  pub fit_none_then : (n : ℕ) → first_fit f n ≡ None → NoneFits f n
  fit_none_then n e = go (look n)
    where
      go : ((r : ℕ) × Smallest f n r) ⊎ NoneFits f n → NoneFits f n
      go (inl s) = let q = fit_at n s.0 s.1 in impossible cc
      go (inr h) = h

-- the first fit goes by what f is alone
pub fit_same : (f g : ℕ → ℕ) → ((x : ℕ) → f x ≡ g x) → (n : ℕ) → first_fit f n ≡ first_fit g n
unfolding first_fit
fit_same f g h zero = refl
fit_same f g h (suc n) = rw (fit_same f g h n, h (suc n))
