-- `brumerola_choice` meets its contract: the length, then the table, then the log on the fresh state of a table that has no refusal of its own.
use mathlib.Core.Path.{sym, ap, ◌∙◌}
use Rattle.state_rules.specs.declared.State.{State}
use Rattle.state_reading.proofs.Starts.{begun_by, refused_by}
use Rattle.rig_codes.specs.Code.{code_for, log_case, code_of}
use Rattle.rig_codes.proofs.Cases.{case_long, case_table, case_log}
use Rattle.rig.proofs.brumerola_choice.Goals as goal

pub returns-then-log-gt-MOST_BYTES : goal.returns-then-log-gt-MOST_BYTES
unfolding code_of
returns-then-log-gt-MOST_BYTES c =
    let a = c.args in
    sym (ap code_for (case_long a.table.now a.log.now c.if-log-gt-MOST_BYTES.true))

pub returns-in-Ok : goal.returns-in-Ok
unfolding code_of
returns-in-Ok c =
    let a = c.args in
    let e = begun_by _ _ _ c.in-Ok.ensures in
    c.log_code.ensures ∙ ap (λ (s : State). code_for (log_case s a.log.now)) e.1
    ∙ sym (ap code_for (case_log a.table.now a.log.now c.if-log-gt-MOST_BYTES.false e.0))

pub returns-in-Err : goal.returns-in-Err
unfolding code_of
returns-in-Err c =
    let a = c.args in
    let e = refused_by _ _ _ c.in-Err.ensures in
    (rw c.number.ensures at c.refusal.ensures) ∙ sym (ap code_for (case_table a.table.now a.log.now c.if-log-gt-MOST_BYTES.false _ _ e))
