-- A number that counts only where a test holds is no larger than the number, and a quotient rounded up or down follows what is divided: by the remainder's
-- bound.
use Prim.Native.Nat.{ℕ, suc, ◌+◌, ◌-◌, ◌*◌, ◌/◌, ◌≤◌, ◌<◌}
use mathlib.Core.Path.{◌≡◌, refl}
use mathlib.Core.Bool.{Bool, true, false, cond}
use native.Mathlib.Nat.{div-add-mod, mod-lt, div-mul-le_self, le-div_iff_mul-le, div-lt_iff_lt-mul, le-mul_of_pos_right, le_trans}
use native.Mathlib.Omega.{arith}
use Rattle.laws.specs.Numbers.{one_if, ceiling}
use Rattle.laws.proofs.Tests.{cond_yes}

pub one_most : (b : Bool) → one_if b ≤ 1
one_most true = omega arith
one_most false = omega arith

-- a number that counts only where a test holds
pub cond_most : (b : Bool) (x : ℕ) → cond b x 0 ≤ x
cond_most true x = omega arith
cond_most false x = omega arith

pub cond_mono : (b c : Bool) (x y : ℕ) → (b ≡ true → c ≡ true) → (b ≡ true → x ≤ y) → cond b x 0 ≤ cond c y 0
cond_mono true c x y s h = omega (arith, h refl, cond_yes c y 0 (s refl))
cond_mono false c x y s h = omega arith

-- a is at most b times a / b rounded up
pub ceiling_covers : (a b : ℕ) → 1 ≤ b → a ≤ b * ceiling a b
ceiling_covers a b h = omega (arith, div-add-mod (a + (b - 1)) b, mod-lt (a + (b - 1)) h)

pub ceiling_small : (a b : ℕ) → 1 ≤ b → ceiling a b ≤ a
ceiling_small a b h =
    let p : a + (b - 1) < suc a * b = omega (arith, le-mul_of_pos_right a h) in
    omega (arith, (div-lt_iff_lt-mul {k = b} {x = a + (b - 1)} {y = suc a} h).1 p)

pub div_mono : (a b t : ℕ) → 1 ≤ t → a ≤ b → a / t ≤ b / t
div_mono a b t p q = (le-div_iff_mul-le p).1 (le_trans (div-mul-le_self a t) q)

pub ceiling_mono : (a b t : ℕ) → 1 ≤ t → a ≤ b → ceiling a t ≤ ceiling b t
ceiling_mono a b t p q = div_mono (a + (t - 1)) (b + (t - 1)) t p (omega arith)
