-- A signed level as two numbers, by cases on its sign: its class, and its need, the met jobs that it lacks for class 1.
use Prim.Native.Nat.{ℕ, zero, suc, ◌-◌, ◌≤◌, ◌<◌}
use mathlib.Core.Path.{◌≡◌, refl, sym}
use mathlib.Core.Bool.{Bool, true, false, cond}
use native.Mathlib.Nat.{le_refl}
use native.Mathlib.Omega.{arith}
use borrow.Author.Tests.{ltb-true, ltb-false, leb-true, lt-ltb, le-ltb, le-leb}
use lib.IntN.{ℤ, pos, negsuc, suc_ℤ, ◌+ℤ◌, +ℤ_one}
use lib.Signed.{lt_z, le_z}
use Rattle.laws.proofs.Tests.{true_not_false}
use Rattle.task_levels.specs.Level.{class_of, raised, lowest, level_holds}

abbrev pub need : ℤ → ℕ
need (pos zero) = 1
need (pos (suc n)) = 0
need (negsuc n) = suc (suc n)

pub need_class : (z : ℤ) → 0 < class_of z → need z ≡ 0
need_class (pos zero) p = absurd (omega arith)
need_class (pos (suc n)) p = refl
need_class (negsuc n) p = absurd (omega arith)

need_top : (n : ℕ) → need (pos n) ≤ 1
need_top zero = omega arith
need_top (suc n) = omega arith

pub class_need : (z : ℤ) → 0 < need z → class_of z ≡ 0
class_need (pos zero) p = refl
class_need (pos (suc n)) p = absurd (omega arith)
class_need (negsuc n) p = refl

-- the lowest level, 1 - h
lowest_is : (n : ℕ) → lowest (suc (suc n)) ≡ negsuc n
lowest_is n =
    let l : 1 < suc (suc n) = omega arith in
    let e : suc (suc n) - 2 ≡ n = omega arith in
    rw (lt-ltb 1 (suc (suc n)) l, e)

pub need_lowest : (h : ℕ) → 1 ≤ h → need (lowest h) ≡ h
need_lowest zero p = absurd (omega arith)
need_lowest (suc zero) p = refl
need_lowest (suc (suc n)) p = rw (lowest_is n)

not_below : (z : ℤ) (h : ℕ) → 1 ≤ h → need z ≤ h → lt_z z (lowest h) ≡ false
not_below z zero p q = absurd (omega arith)
not_below (pos n) (suc zero) p q = le-ltb n 0 (omega arith)
not_below (negsuc n) (suc zero) p q = absurd (omega arith)
not_below (pos n) (suc (suc j)) p q = rw (lowest_is j)
not_below (negsuc n) (suc (suc j)) p q = rw (lowest_is j) (le-ltb j n (omega arith))

not_above : (z : ℤ) (top : ℕ) → class_of z ≤ top → le_z z (pos top) ≡ true
not_above (pos n) top p = le-leb n top p
not_above (negsuc n) top p = refl

pub level_holds_lem : (z : ℤ) (h top : ℕ) → 1 ≤ h → need z ≤ h → class_of z ≤ top → level_holds z h top ≡ true
level_holds_lem z h top p q l = rw (not_below z h p q) (not_above z top l)

-- and back: within its range a level lacks at most h, and its class is at most the top
low_told : (z : ℤ) (h : ℕ) → 1 ≤ h → lt_z z (lowest h) ≡ false → need z ≤ h
low_told z zero p e = absurd (omega arith)
low_told (pos n) (suc j) p e = omega (arith, need_top n)
low_told (negsuc n) (suc zero) p e = absurd (true_not_false e)
low_told (negsuc n) (suc (suc j)) p e = omega (arith, ltb-false j n (rw (lowest_is j) at e))

top_told : (z : ℤ) (top : ℕ) → le_z z (pos top) ≡ true → class_of z ≤ top
top_told (pos n) top e = leb-true n top e
top_told (negsuc n) top e = omega arith

pub level_told : (z : ℤ) (h top : ℕ) → 1 ≤ h → level_holds z h top ≡ true → (need z ≤ h) × (class_of z ≤ top)
level_told z h top p e = go (lt_z z (lowest h)) refl e
  where
    go : (b : Bool) → lt_z z (lowest h) ≡ b → cond b false (le_z z (pos top)) ≡ true → (need z ≤ h) × (class_of z ≤ top)
    go true q r = absurd (true_not_false (sym r))
    go false q r = (low_told z h p q, top_told z top r)

-- one more
need_falls : (z : ℤ) → need z ≤ suc (need (suc_ℤ z))
need_falls (pos zero) = omega arith
need_falls (pos (suc n)) = omega arith
need_falls (negsuc zero) = omega arith
need_falls (negsuc (suc n)) = omega arith

need_most : (z : ℤ) → need (suc_ℤ z) ≤ need z
need_most (pos zero) = omega arith
need_most (pos (suc n)) = omega arith
need_most (negsuc zero) = omega arith
need_most (negsuc (suc n)) = omega arith

class_most : (z : ℤ) (top : ℕ) → lt_z z (pos top) ≡ true → class_of (suc_ℤ z) ≤ top
class_most (pos n) top e = ltb-true n top e
class_most (negsuc zero) top e = omega arith
class_most (negsuc (suc n)) top e = omega arith

at_top : (z : ℤ) (top : ℕ) → lt_z z (pos top) ≡ false → need z ≤ 1
at_top (pos n) top e = need_top n
at_top (negsuc n) top e = absurd (true_not_false e)

module _ (z : ℤ) (top : ℕ) where
  by_raised : (P : ℤ → Type 0) → (lt_z z (pos top) ≡ true → P (suc_ℤ z)) → (lt_z z (pos top) ≡ false → P (pos top)) → P (raised z top)
  by_raised P f g = go (lt_z z (pos top)) refl
    where
      go : (b : Bool) → lt_z z (pos top) ≡ b → P (cond b (z +ℤ pos 1) (pos top))
      go true e = rw (+ℤ_one z) (f e)
      go false e = g e

  -- a met job takes at most one from the need, and adds nothing to it but at the top
  pub raised_least : need z ≤ suc (need (raised z top))
  raised_least = by_raised (λ x. need z ≤ suc (need x)) (λ e. need_falls z) (λ e. omega (arith, at_top z top e))

  pub raised_most : (h : ℕ) → 1 ≤ h → need z ≤ h → need (raised z top) ≤ h
  raised_most h p q = by_raised (λ x. need x ≤ h) (λ e. omega (arith, need_most z)) (λ e. omega (arith, need_top top))

  pub raised_class : class_of (raised z top) ≤ top
  raised_class = by_raised (λ x. class_of x ≤ top) (λ e. class_most z top e) (λ e. le_refl top)
