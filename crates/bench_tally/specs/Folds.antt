-- All that a report holds, folded into one number.
use Rattle.std.specs.Prelude.{Option, None, Some, ℕ, zero, suc, ◌+◌, min, List, get_or}
use Rattle.event_logs.specs.Stops.{Ending}
use Rattle.event_logs.specs.Stops as E
use Rattle.tally_rules.specs.declared.Span.{Span}
use Rattle.tally_rules.specs.declared.Tally.{Tally}
use Rattle.tally_rules.specs.declared.Tallies.{Tallies}
use Rattle.tally_rules.specs.Answer.{Answer}
use Rattle.tally_rules.specs.Answer as A
use Rattle.tally_rules.specs.Tally.{cell_count, tally_at}
use Rattle.tally_histories.specs.Answer.{Reported}
use Rattle.bench_sums.specs.Folds.{folded}

-- an absent one is told from 0
abbrev pub span_folded : ℕ → Option Span → ℕ
span_folded sum None = folded (folded sum 0) 0
span_folded sum (Some s) = folded (folded sum (s.least + 1)) (s.most + 1)

-- the first n cells
unfoldable pub cells_folded : ℕ → List ℕ → ℕ → ℕ
cells_folded sum cells zero = sum
cells_folded sum cells (suc n) = folded (cells_folded sum cells n) (get_or cells n 0)

-- D, the jobs met, the least and the most, the sum, and then the cells
abbrev pub tally_folded : ℕ → Tally → ℕ
tally_folded sum t = cells_folded (folded (span_folded (folded (folded sum t.d) t.met) t.span) t.sum) t.cells cell_count

-- the first n tasks by position
unfoldable pub tallies_folded : ℕ → Tallies → ℕ → ℕ
tallies_folded sum ts zero = sum
tallies_folded sum ts (suc n) = tally_folded (tallies_folded sum ts n) (tally_at ts n)

-- the offset counts from the chunk's first byte
abbrev pub ending_code : Ending → ℕ
ending_code E.Whole = 0
ending_code (E.Stopped number offset) = folded number offset

-- a refused report is told by its number alone
abbrev pub unless_refused : Answer → ℕ → ℕ
unless_refused A.Accepted x = x
unless_refused (A.Refused n) x = 2048 + n

abbrev pub report_folded : Reported → ℕ
report_folded r = unless_refused r.answer (tallies_folded (ending_code r.ending) r.tallies (min r.state.count 16))
