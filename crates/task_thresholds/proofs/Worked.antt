-- The rules' eight thresholds, as one claim, by computation.
use Prim.Native.Nat.{ℕ}
use mathlib.Core.Path.{◌≡◌, refl}
use mathlib.Core.List.{List, [], ◌∷◌, map}
use Rattle.task_thresholds.specs.Thresholds.{w_of, h_of}

-- (m, K), w and h: a row of the rules' table
abbrev pub Row : Type 0
Row = ℕ × ℕ × ℕ × ℕ

abbrev pub row_of : ℕ × ℕ → Row
row_of p = (p.0, p.1, w_of p.0 p.1, h_of p.0 p.1)

abbrev pub pairs : List (ℕ × ℕ)
pairs = (0, 1) ∷ (1, 2) ∷ (2, 3) ∷ (1, 3) ∷ (2, 5) ∷ (3, 5) ∷ (63, 64) ∷ (1, 64) ∷ []

abbrev pub rows : List Row
rows =
    (0, 1, 0, 1)
    ∷ (1, 2, 1, 1)
    ∷ (2, 3, 2, 1)
    ∷ (1, 3, 1, 2)
    ∷ (2, 5, 1, 2)
    ∷ (3, 5, 1, 1)
    ∷ (63, 64, 63, 1)
    ∷ (1, 64, 1, 63)
    ∷ []

pub thresholds : map row_of pairs ≡ rows
thresholds = refl
