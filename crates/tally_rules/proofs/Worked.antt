-- Cells worked out: the first, the second and the last response of four deadlines, and a tally of three responses, by computing.
use Prim.Native.Nat.{ℕ}
use mathlib.Core.Path.{◌≡◌, refl}
use mathlib.Core.List.{List, [], ◌∷◌}
use Rattle.tally_rules.specs.declared.Tally.{Tally}
use Rattle.tally_rules.specs.Tally.{cell_of, cell_at, between, taken, tally_over, tally_of}

-- the cells of the responses 0, 1 and d
abbrev ends : ℕ → List ℕ
ends d = cell_of d 0 ∷ cell_of d 1 ∷ cell_of d d ∷ []

pub of_one : ends 1 ≡ 0 ∷ 64 ∷ 64 ∷ []
of_one = refl

pub of_seven : ends 7 ≡ 0 ∷ 16 ∷ 112 ∷ []
of_seven = refl

-- a cell for each tick
pub of_127 : ends 127 ≡ 0 ∷ 1 ∷ 127 ∷ []
of_127 = refl

pub of_million : ends 1000000 ≡ 0 ∷ 0 ∷ 127 ∷ []
of_million = refl

-- 12, 3 and 12 ticks of 100: the cells 15, 3 and 15
abbrev three : Tally
three = tally_of 100 (12 ∷ 3 ∷ 12 ∷ [])

pub of_three : cell_at three 15 ∷ cell_at three 3 ∷ three.met ∷ three.sum ∷ [] ≡ 2 ∷ 1 ∷ 3 ∷ 27 ∷ []
unfolding tally_over taken
of_three = refl

pub span-of_three : three.span ≡ between 3 12
unfolding tally_over taken
span-of_three = refl
