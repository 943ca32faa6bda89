use Prim.Native.Nat.{◌-◌}
use lib.ListN.{length}
use Rattle.tally_runs.proofs.Tallying.{Tallying}
use Rattle.tally_runs.proofs.report.tally_log.Given as goal

abbrev pub invariant-loop-event : goal.invariant-loop-event
invariant-loop-event l = Tallying l.fn.state l.fn.tallies l.log l.state l.tallies l.from

abbrev pub decreases-loop-event : goal.decreases-loop-event
decreases-loop-event l = length l.log - l.from
