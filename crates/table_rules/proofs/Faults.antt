-- The first fault is the fault at the least position that has one: by induction on how many positions were looked at.
use Prim.Native.Nat.{ℕ, zero, suc, ◌≤◌, ◌<◌}
use mathlib.Core.Path.{◌≡◌, refl, sym, ap, ◌∙◌}
use native.Mathlib.Nat.{not-suc-le-zero}
use native.Mathlib.Decide.{ℕ_discrete}
use native.Mathlib.Omega.{arith}
use Rattle.laws.proofs.Tests.{impossible}
use Rattle.table_rules.specs.Answers.{Answer}
use Rattle.table_rules.specs.Answers.{Accepted, Refused}
use Rattle.table_rules.specs.Judging.{or_else, first_fault}

-- position p has the fault x, and none before it has one
pub record First (f : ℕ → ℕ) (n x p : ℕ) : Type 0 where
  pub below : p < n
  pub fault : f p ≡ x
  pub some : x ≡ 0 → ⊥
  pub none : (i : ℕ) → i < p → f i ≡ 0

accepted_parts : (a : Answer) (x i : ℕ) → or_else a x i ≡ Accepted → (a ≡ Accepted) × (x ≡ 0)
accepted_parts Accepted zero i e = (refl, refl)
accepted_parts Accepted (suc x) i e = impossible cc
accepted_parts (Refused y p) x i e = impossible cc

module _ (f : ℕ → ℕ) where
  pub none_more : (n : ℕ) → first_fault f n ≡ Accepted → f n ≡ 0 → first_fault f (suc n) ≡ Accepted
  unfolding first_fault
  none_more n a e = rw (a, e)

  pub found_here : (n : ℕ) → first_fault f n ≡ Accepted → (f n ≡ 0 → ⊥) → first_fault f (suc n) ≡ Refused (f n) n
  unfolding first_fault
  found_here n a e = rw a (go (f n) e)
    where
      go : (x : ℕ) → (x ≡ 0 → ⊥) → or_else Accepted x n ≡ Refused x n
      go zero q = absurd (q refl)
      go (suc x) q = refl

  -- a refusal stands whatever comes after it
  pub found_stays : (i n x p : ℕ) → i ≤ n → first_fault f i ≡ Refused x p → first_fault f n ≡ Refused x p
  unfolding first_fault
  found_stays i zero x p h e = let z : i ≡ 0 = omega arith in rw z at e
  found_stays i (suc n) x p h e = go (ℕ_discrete i (suc n)) (found_stays i n x p)
    where
      go : Dec (i ≡ suc n) → (i ≤ n → first_fault f i ≡ Refused x p → first_fault f n ≡ Refused x p) → or_else (first_fault f n) (f n) n ≡ Refused x p
      go (yes q) k = rw q at e
      go (no q) k = rw (k (omega arith) e)

  pub found_at : (i n : ℕ) → i < n → first_fault f i ≡ Accepted → (f i ≡ 0 → ⊥) → first_fault f n ≡ Refused (f i) i
  found_at i n h a e = found_stays (suc i) n (f i) i h (found_here i a e)

  -- nothing is refused exactly if no position has a fault
  pub none_if : (n : ℕ) → ((i : ℕ) → i < n → f i ≡ 0) → first_fault f n ≡ Accepted
  unfolding first_fault
  none_if zero k = refl
  none_if (suc n) k = none_more n (none_if n (λ i h. k i (omega arith))) (k n (omega arith))

  pub none_then : (n : ℕ) → first_fault f n ≡ Accepted → (i : ℕ) → i < n → f i ≡ 0
  unfolding first_fault
  none_then zero a i h = absurd (not-suc-le-zero h)
  none_then (suc n) a i h = go (ℕ_discrete i n) (none_then n (accepted_parts (first_fault f n) (f n) n a).0)
    where
      go : Dec (i ≡ n) → ((j : ℕ) → j < n → f j ≡ 0) → f i ≡ 0
      go (yes q) k = ap f q ∙ (accepted_parts (first_fault f n) (f n) n a).1
      go (no q) k = k i (omega arith)

  -- a position is refused exactly if its fault is the first
  pub found_if : (n x p : ℕ) → First f n x p → first_fault f n ≡ Refused x p
  found_if n x p r =
      let e = r.fault in
      rw e at (found_at p n r.below (none_if p r.none) (λ z. r.some (sym e ∙ z)))

  pub found_then : (n x p : ℕ) → first_fault f n ≡ Refused x p → First f n x p
  unfolding first_fault
  found_then zero x p e = impossible cc
  found_then (suc n) x p e = go (first_fault f n) (f n) refl refl e (found_then n x p)
    where
      go : (a : Answer) (y : ℕ) → first_fault f n ≡ a → f n ≡ y → or_else a y n ≡ Refused x p
          → (first_fault f n ≡ Refused x p → First f n x p) → First f (suc n) x p
      go Accepted zero q r s k = impossible cc
      go Accepted (suc y) q r s k =
          let ex : suc y ≡ x = cc in
          let ep : n ≡ p = cc in
          record { below = omega arith; fault = ap f (sym ep) ∙ r ∙ ex; some = λ z. omega arith; none = λ i h. none_then n q i (omega arith) }
      go (Refused y j) w q r s k =
          let b = k (q ∙ s) in
          record { below = omega (arith, b.below); fault = b.fault; some = b.some; none = b.none }
