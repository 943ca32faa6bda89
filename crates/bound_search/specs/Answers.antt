-- The rules' number and value for each case of what the search yields.
use Rattle.std.specs.Prelude.{ℕ, Option, Some, None}

-- 13 for no bound; 0 where nothing is refused
abbrev pub found_number : Option ℕ → ℕ
found_number (Some r) = 0
found_number None = 13

-- 0 where there is no bound: no bound is 0
abbrev pub found_value : Option ℕ → ℕ
found_value (Some r) = r
found_value None = 0
