-- The library's quotient rounded up is the rules', and a part fits: a stretch begins no more spacings than it has ticks.
use Prim.Native.Nat.{ℕ, suc, ◌+◌, ◌-◌, ◌*◌, ◌≤◌, ◌<◌}
use mathlib.Core.Path.{◌≡◌, sym}
use native.Mathlib.Nat.{div-lt_iff_lt-mul, le-div_iff_mul-le, mul-le-mul, le_trans}
use native.Mathlib.Omega.{arith}
use Rattle.std.specs.Int.{div_ceil}
use Rattle.std.proofs.lemmas.Grind.{div_ceil_times}
use Rattle.laws.specs.Numbers.{ceiling}
use Rattle.laws.proofs.Numbers.{ceiling_small}
use Rattle.bound_demand.specs.Demand.{part_of}

-- a number whose multiple of b is at least a and less than a + b is the quotient
ceiling_one : (a b q : ℕ) → 1 ≤ b → a ≤ q * b → q * b < a + b → ceiling a b ≡ q
ceiling_one a b q h u v =
    let p : a + (b - 1) < suc q * b = omega arith in
    let m : q * b ≤ a + (b - 1) = omega arith in
    omega (arith, (div-lt_iff_lt-mul {k = b} {x = a + (b - 1)} {y = suc q} h).1 p, (le-div_iff_mul-le {k = b} {x = q} {y = a + (b - 1)} h).1 m)

pub ceiling_is : (a b : ℕ) → 1 ≤ b → div_ceil a b ≡ ceiling a b
ceiling_is a b h = let e = div_ceil_times a b h in sym (ceiling_one a b (div_ceil a b) h e.0 e.1)

pub part_is : (cost spacing r : ℕ) → 1 ≤ spacing → div_ceil r spacing * cost ≡ part_of cost spacing r
part_is cost spacing r h = rw (ceiling_is r spacing h)

pub part_small : (cost spacing r : ℕ) → 1 ≤ spacing → r ≤ 1000000 → cost ≤ 4294967295 → div_ceil r spacing * cost ≤ 1000000 * 4294967295
part_small cost spacing r h p q = rw (ceiling_is r spacing h) (mul-le-mul (le_trans (ceiling_small r spacing h) p) q)
