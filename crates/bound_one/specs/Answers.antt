-- The rules' number, position and value for each case of the answer about one bound.
use Rattle.std.specs.Prelude.{ℕ}
use Rattle.bound_one.specs.Bound.{Bound}
use Rattle.bound_one.specs.Bound.{At, Refused}

-- 0 where nothing is refused: no refusal has that number
abbrev pub bound_number : Bound → ℕ
bound_number (At r) = 0
bound_number (Refused n p) = n

abbrev pub bound_position : Bound → ℕ
bound_position (At r) = 0
bound_position (Refused n p) = p

-- 0 where a bound is refused: no bound is 0
abbrev pub bound_value : Bound → ℕ
bound_value (At r) = r
bound_value (Refused n p) = 0
