-- `report::run` meets its contract: what is asked before anything is read comes first.
use mathlib.Core.Path.{sym}
use borrow.Author.Tests.{ne_eqb}
use Rattle.std.proofs.lemmas.Result.{err_from_is_err_and}
use Rattle.refusals.specs.Numbers.{number_of}
use Rattle.refusals.proofs.Numbers.{number_some}
use Rattle.tally_histories.specs.Report.{reported}
use Rattle.tally_histories.proofs.Beside.{none_beside}
use Rattle.tally_runs.proofs.report.run.Goals as goal

pub returns-in_err-beside : goal.returns-in_err-beside
unfolding reported
returns-in_err-beside c =
    let r = c.in_err-beside.field-0.0 in
    let p = err_from_is_err_and c.from_residual.result c.from_residual.ensures.1 in
    rw (p.1, p.2, ← c.in_err-beside.ensures, ne_eqb (number_of r) 0 (number_some r))

pub tally_log-requires : goal.tally_log-requires
tally_log-requires c = none_beside c.args.state c.args.tallies (sym c.in_ok-beside.ensures)

pub returns : goal.returns
unfolding reported
returns c = rw (← c.in_ok-beside.ensures) c.tally_log.ensures
