-- `brumerola_bench_tally` meets its contract: a refused table, or the report from the table's fresh state.
use Prim.Native.Nat.{ℕ, ◌+◌, ◌/◌}
use mathlib.Core.Path.{◌≡◌, refl, ap, ◌∙◌}
use mathlib.Core.List.{List}
use lib.ListN.{length}
use Rattle.std.specs.Prelude.{Ok}
use Rattle.laws.proofs.Tests.{impossible}
use Rattle.table_rules.specs.declared.Table.{Table}
use Rattle.table_rules.specs.Answers.{Answer, Accepted, Refused}
use Rattle.table_rules.specs.Judging.{judged}
use Rattle.table_reading.specs.Table.{read_table}
use Rattle.table_reading.proofs.Given.{read_good}
use Rattle.state_rules.specs.declared.State.{State}
use Rattle.state_rules.specs.Started.{Started}
use Rattle.state_rules.specs.State.{fresh_state, as_started, started_by, started}
use Rattle.state_reading.proofs.Starts.{begun_by}
use Rattle.tally_rules.specs.declared.Tallies.{Tallies}
use Rattle.tally_histories.specs.Answer.{Reported}
use Rattle.tally_histories.specs.Sound.{fresh_tallies}
use Rattle.bench_tally.specs.Folds.{report_folded}
use Rattle.bench_tally.specs.Chunks.{chunks_reported}
use Rattle.bench_tally.specs.Asked.{report_asked, tally_asked}
use Rattle.bench_tally.proofs.brumerola_bench_tally.Goals as goal

fresh_start : (t : Table) → judged t ≡ Accepted → (started t).state ≡ fresh_state t
unfolding started
fresh_start t g = rw g

-- what is asked of a table that reads
of_state : (table log : List ℕ) (s : State) → as_started (Ok s) ≡ started_by (read_table table).answer (read_table table).table
    → report_asked s log ≡ tally_asked table log
of_state table log s q =
    let e = begun_by _ _ _ q in
    rw (e.0, fresh_start (read_table table).table (read_good table e.0), ← e.1)

module _ (s : State) (ts : Tallies) (log : List ℕ) (e : ts ≡ fresh_tallies s) where
  of_report : (r : Reported) → r ≡ chunks_reported s ts log (length log / 65520 + 1) → report_folded r ≡ report_asked s log
  of_report r q = ap report_folded q ∙ rw e

pub returns-in-Ok-carry : goal.returns-in-Ok-carry
returns-in-Ok-carry c =
    let a = c.args in
    let s = c.in-Ok.state in
    c.fold_report.ensures ∙ of_report s c.fresh_of.result a.log.now c.fresh_of.ensures _ c.in-Ok-carry.ensures
    ∙ of_state a.table.now a.log.now s c.in-Ok.ensures

pub returns-in-Err-carry : goal.returns-in-Err-carry
returns-in-Err-carry c =
    let a = c.args in
    let s = c.in-Ok.state in
    c.refused-in-Err-carry.ensures ∙ of_report s c.fresh_of.result a.log.now c.fresh_of.ensures _ c.in-Err-carry.ensures
    ∙ of_state a.table.now a.log.now s c.in-Ok.ensures
