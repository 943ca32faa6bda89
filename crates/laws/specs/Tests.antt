-- Tests that hold together.
use Rattle.std.specs.Prelude.{Bool, true, false, cond, List, [], ◌∷◌}

-- every test of the list holds
abbrev pub all_of : List Bool → Bool
all_of [] = true
all_of (b ∷ bs) = cond b (all_of bs) false

-- where a holds, b does
abbrev pub whenever : Bool → Bool → Bool
whenever a b = cond a b true
