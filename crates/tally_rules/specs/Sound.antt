-- Rules, "Tally": when a tally is sound.
use Rattle.std.specs.Prelude.{Option, None, Some, ℕ, zero, suc, ◌≤◌, ◌<◌, ◌≡◌, Bool, true, false, cond, List, [], ◌∷◌, leb, eqb, get_or}
use Rattle.laws.specs.Sums.{total}
use Rattle.laws.specs.Tests.{all_of}
use Rattle.table_rules.specs.Limits.{longest_t}
use Rattle.tally_rules.specs.declared.Span.{Span}
use Rattle.tally_rules.specs.declared.Tally.{Tally}
use Rattle.tally_rules.specs.Tally.{cell_count, most_tallied, cell_at}

-- the least and the most beside D, the jobs met and the sum
pub data Spans (d met sum : ℕ) : Option Span → Type 0 where
  -- while nothing was met, both are absent and nothing was added up
  none : met ≡ 0 → sum ≡ 0 → Spans d met sum None
  some : {s : Span} → 1 ≤ met → s.least ≤ s.most → s.most ≤ d → Spans d met sum (Some s)

pub record TallySound (t : Tally) : Type 0 where
  pub some : 1 ≤ t.d
  pub limit : t.d ≤ longest_t
  pub sum : t.sum ≤ most_tallied
  pub span : Spans t.d t.met t.sum t.span
  pub cells : (c : ℕ) → c < cell_count → cell_at t c ≤ most_tallied
  -- the cells sum to the jobs met
  pub met : total (cell_at t) cell_count ≡ t.met

-- the same as tests
abbrev pub span_holds : Option Span → ℕ → ℕ → ℕ → Bool
span_holds None d met sum = cond (eqb met 0) (eqb sum 0) false
span_holds (Some s) d met sum = cond (eqb met 0) false (cond (leb s.most d) (leb s.least s.most) false)

-- the first n cells are within their limit
unfoldable pub cells_within : List ℕ → ℕ → Bool
cells_within l zero = true
cells_within l (suc n) = cond (cells_within l n) (leb (get_or l n 0) most_tallied) false

abbrev pub cells_hold : List ℕ → ℕ → Bool
cells_hold l met = cond (cells_within l cell_count) (eqb (total (λ c. get_or l c 0) cell_count) met) false

unfoldable pub tally_holds : Tally → Bool
tally_holds t =
    all_of (
    leb 1 t.d
    ∷ leb t.d longest_t
    ∷ leb t.sum most_tallied
    ∷ span_holds t.span t.d t.met t.sum
    ∷ cells_hold t.cells t.met
    ∷ []
    )
