-- One or none, and rounding up.
use Rattle.std.specs.Prelude.{ℕ, ◌+◌, ◌-◌, ◌/◌, Bool, cond}

-- 1 where it holds, else 0
abbrev pub one_if : Bool → ℕ
one_if b = cond b 1 0

-- a / b, rounded up
abbrev pub ceiling : ℕ → ℕ → ℕ
ceiling a b = (a + (b - 1)) / b
