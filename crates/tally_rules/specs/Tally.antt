-- Rules, "Tally": a tally of responses, and what one response more makes of it.
use Rattle.std.specs.Prelude.{Option, None, Some, ℕ, ◌+◌, ◌*◌, ◌/◌, min, max, List, [], ◌∷◌, get_or, set, replicate}
use Rattle.tally_rules.specs.declared.Span.{Span}
use Rattle.tally_rules.specs.declared.Tally.{Tally}
use Rattle.tally_rules.specs.declared.Tallies.{Tallies}

abbrev pub cell_count : ℕ
cell_count = 128

-- the largest sum of responses, and the largest count of a cell
abbrev pub most_tallied : ℕ
most_tallied = 1000000000000000

-- the cell of a response r of a task with deadline d
abbrev pub cell_of : ℕ → ℕ → ℕ
cell_of d r = cell_count * r / (d + 1)

abbrev pub cell_at : Tally → ℕ → ℕ
cell_at t c = get_or t.cells c 0

abbrev pub fresh_tally : ℕ → Tally
fresh_tally d = record { d = d; cells = replicate cell_count 0; met = 0; span = None; sum = 0 }

-- a place that holds no tally
abbrev pub no_tally : Tally
no_tally = record { d = 0; cells = []; met = 0; span = None; sum = 0 }

abbrev pub tally_at : Tallies → ℕ → Tally
tally_at ts i = get_or ts.row i no_tally

abbrev pub between : ℕ → ℕ → Option Span
between least most = Some (record { least = least; most = most })

-- the least and the most, with r among them
abbrev pub widened : Option Span → ℕ → Option Span
widened None r = between r r
widened (Some s) r = between (min s.least r) (max s.most r)

-- a met job with response r
unfoldable pub taken : Tally → ℕ → Tally
taken t r =
    record {
      d = t.d;
      cells = set t.cells (cell_of t.d r) (cell_at t (cell_of t.d r) + 1);
      met = t.met + 1;
      span = widened t.span r;
      sum = t.sum + r;
    }

-- responses, newest first, on top of a tally
unfoldable pub tally_over : Tally → List ℕ → Tally
tally_over t [] = t
tally_over t (r ∷ rs) = taken (tally_over t rs) r

-- the tally of the responses of a task with deadline d
abbrev pub tally_of : ℕ → List ℕ → Tally
tally_of d rs = tally_over (fresh_tally d) rs
