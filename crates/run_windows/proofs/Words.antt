-- The word of marks that a task's outcomes make.
use Prim.Native.Nat.{ℕ, ◌+◌, ◌*◌}
use mathlib.Core.Bool.{Bool, true, false}
use mathlib.Core.List.{List, [], ◌∷◌}

-- a miss is marked 1
abbrev pub mark_of : Bool → ℕ
mark_of true = 0
mark_of false = 1

-- outcomes as marks in a word, the newest in the lowest place
abbrev pub word_of : List Bool → ℕ
word_of [] = 0
word_of (o ∷ os) = word_of os * 2 + mark_of o
