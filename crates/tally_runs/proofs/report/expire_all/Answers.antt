-- `report::expire_all` meets its contract: the row is settled position by position.
use mathlib.Core.Path.{◌≡◌, refl, sym, ap, ◌∙◌}
use native.Mathlib.Numerals.{add-one}
use lib.ListN.{get_or, set}
use Rattle.task_steps.specs.Opening.{expired, no_record}
use Rattle.state_rules.specs.declared.State.{State}
use Rattle.apply_events.specs.Apply.{moved}
use Rattle.apply_engine.proofs.Settled.{late_closed, prompt_stays}
use Rattle.tally_runs.proofs.InPlace.{settled_none, settled_more}
use Rattle.tally_runs.proofs.report.expire_all.Goals.{then-is_late, else-is_late}
use Rattle.tally_runs.proofs.report.expire_all.Goals as goal

pub loop-i-init : goal.loop-i-init
loop-i-init c = record { counted = refl; clock = refl; rows = settled_none c.args.state.now.records c.args.time }

pub loop-i-preserved : goal.loop-i-preserved
loop-i-preserved c =
    let t = c.args.time in
    let l = c.loop-i in
    let x = l.state in
    let late = c.is_late.ensures in
    let v = l.invariant in
    let e : c.if-is_late.state ≡ moved x x.clock (set x.records l.i (expired (get_or x.records l.i no_record) t)) =
    elim c.if-is_late.branch [
      | then-is_late w ↦ w.state-is
          ∙ ap (moved x x.clock) (ap (set x.records l.i) w.close.ensures ∙ late_closed x.records t l.i (sym late ∙ w.if-is_late.true))
      | else-is_late w ↦ w.state-is ∙ ap (moved x x.clock) (prompt_stays x.records t l.i (sym late ∙ w.if-is_late.false))
    ] in
    record {
      counted = ap (λ (y : State). y.count) e ∙ v.counted;
      clock = ap (λ (y : State). y.clock) e ∙ v.clock;
      rows = rw add-one (settled_more c.args.state.now.records t l.i x.records c.if-is_late.state.records v.rows (ap (λ (y : State). y.records) e));
    }
