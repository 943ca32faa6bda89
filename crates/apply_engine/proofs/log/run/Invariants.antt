use Prim.Native.Nat.{◌-◌}
use lib.ListN.{length}
use Rattle.apply_events.specs.Answer.{as_told}
use Rattle.apply_events.proofs.Runs.{Running}
use Rattle.apply_engine.proofs.log.run.Given as goal

abbrev pub invariant-loop-event : goal.invariant-loop-event
invariant-loop-event l = Running l.fn.state l.log (record { answer = as_told l.answer; state = l.state }) l.from

abbrev pub decreases-loop-event : goal.decreases-loop-event
decreases-loop-event l = length l.log - l.from
