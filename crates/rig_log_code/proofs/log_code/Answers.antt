-- `log_code` meets its contract: what ended the run's reading decides, and then its last answer.
use mathlib.Core.Path.{sym, ap, ◌∙◌}
use Rattle.event_logs.specs.Stops.{as_ending}
use Rattle.apply_events.specs.Answer.{Ran}
use Rattle.rig_codes.specs.Code.{code_for, of_answer}
use Rattle.rig_codes.proofs.Answers.{ran-fits}
use Rattle.rig_codes.proofs.Cases.{case_stopped, case_ended}
use Rattle.rig_log_code.proofs.log_code.Goals as goal

pub code_of-requires : goal.code_of-requires
code_of-requires c =
    let a = c.args in
    rw (ap (λ (x : Ran). x.answer) c.run-ran.ensures) (ran-fits a.state a.log.now)

pub returns-in-Ok : goal.returns-in-Ok
returns-in-Ok c =
    let a = c.args in
    let e = sym (ap (λ (x : Ran). x.ending) c.run-ran.ensures) ∙ ap as_ending c.in-Ok.is in
    c.code_of.ensures ∙ ap (λ (x : Ran). code_for (of_answer x.answer)) c.run-ran.ensures
    ∙ sym (ap code_for (case_ended a.state a.log.now e))

pub returns-in-Err : goal.returns-in-Err
returns-in-Err c =
    let a = c.args in
    let e = sym (ap (λ (x : Ran). x.ending) c.run-ran.ensures) ∙ ap as_ending c.in-Err.is in
    (rw c.number.ensures at c.refusal.ensures) ∙ sym (ap code_for (case_stopped a.state a.log.now _ _ e))
