-- `begun` meets its contract: a table that reads obeys the rules, so it starts in its fresh state.
use mathlib.Core.Path.{◌≡◌, sym, ap, ◌∙◌}
use mathlib.Core.List.{List}
use Prim.Native.Nat.{ℕ}
use Rattle.std.specs.Prelude.{Ok}
use Rattle.std.proofs.lemmas.Result.{err_from_is_err_and}
use Rattle.table_rules.specs.Answers.{Accepted}
use Rattle.table_rules.specs.declared.Table.{Table}
use Rattle.table_rules.specs.Judging.{judged}
use Rattle.table_reading.specs.Answers.{TableRead}
use Rattle.table_reading.specs.Table.{read_table, as_table_read}
use Rattle.table_reading.proofs.Given.{read_good}
use Rattle.state_rules.specs.State.{started, started_by}
use Rattle.state_reading.proofs.begun.Goals as goal

starts : (s : List ℕ) (t : Table) → as_table_read (Ok t) ≡ read_table s → started t ≡ started_by (read_table s).answer (read_table s).table
unfolding started
starts s t q =
    let good : judged t ≡ Accepted = rw (← q) at (read_good s (sym (ap (λ (x : TableRead). x.answer) q))) in
    rw (← q, good)

pub returns-in_err-read : goal.returns-in_err-read
returns-in_err-read c =
    let p = err_from_is_err_and c.from_residual.result c.from_residual.ensures.1 in
    rw (p.1, p.2, ← c.in_err-read.ensures)

pub returns : goal.returns
returns c = c.start.ensures ∙ starts c.args.table.now _ c.in_ok-read.ensures
