-- Rules, "Tally": what a tally is of a list of responses: how many fell into each cell, the least and the most, the sum, in any order.
use Rattle.std.specs.Prelude.{Option, None, Some, ℕ, ◌+◌, ◌≤◌, ◌<◌, ◌≡◌, List, [], ◌∷◌, eqb, length}
use Rattle.laws.specs.Numbers.{one_if}
use Rattle.tally_rules.specs.declared.Span.{Span}
use Rattle.tally_rules.specs.declared.Tally.{Tally}
use Rattle.tally_rules.specs.Tally.{cell_count, most_tallied, cell_of, cell_at}
use Rattle.tally_rules.specs.Adding.{accepted, added}

-- all cells are there: so it is of every tally that code holds
abbrev pub Whole : Tally → Type 0
Whole t = length t.cells ≡ cell_count

-- neither the sum nor a cell is past the limit
pub record Within (t : Tally) : Type 0 where
  pub sum : t.sum ≤ most_tallied
  pub cells : (c : ℕ) → c < cell_count → cell_at t c ≤ most_tallied

-- no response of the list is above d
pub data UpTo (d : ℕ) : List ℕ → Type 0 where
  none : UpTo d []
  more : {r : ℕ} {rs : List ℕ} → r ≤ d → UpTo d rs → UpTo d (r ∷ rs)

-- the responses of the list in cell c
unfoldable pub count_in : ℕ → ℕ → List ℕ → ℕ
count_in d c [] = 0
count_in d c (r ∷ rs) = count_in d c rs + one_if (eqb (cell_of d r) c)

unfoldable pub sum_of : List ℕ → ℕ
sum_of [] = 0
sum_of (r ∷ rs) = sum_of rs + r

pub data Among (r : ℕ) : List ℕ → Type 0 where
  here : {rs : List ℕ} → Among r (r ∷ rs)
  later : {q : ℕ} {rs : List ℕ} → Among r rs → Among r (q ∷ rs)

-- the least and the most of the list, absent where it is empty
pub data SpanOf : List ℕ → Option Span → Type 0 where
  empty : SpanOf [] None
  between : {rs : List ℕ} {s : Span} → Among s.least rs → Among s.most rs → ((r : ℕ) → Among r rs → (s.least ≤ r) × (r ≤ s.most)) → SpanOf rs (Some s)

-- the same responses in another order
pub data Shuffled : List ℕ → List ℕ → Type 0 where
  same : {rs : List ℕ} → Shuffled rs rs
  swap : {r q : ℕ} {rs : List ℕ} → Shuffled (r ∷ q ∷ rs) (q ∷ r ∷ rs)
  keep : {r : ℕ} {rs qs : List ℕ} → Shuffled rs qs → Shuffled (r ∷ rs) (r ∷ qs)
  then : {rs qs ps : List ℕ} → Shuffled rs qs → Shuffled qs ps → Shuffled rs ps

-- the responses were added one by one, newest first, and none was refused
pub data AddedUp (t : Tally) : List ℕ → Tally → Type 0 where
  start : AddedUp t [] t
  next : {r : ℕ} {rs : List ℕ} {x y : Tally} → AddedUp t rs x → added x r ≡ accepted y → AddedUp t (r ∷ rs) y
