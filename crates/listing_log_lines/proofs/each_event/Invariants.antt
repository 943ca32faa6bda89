use Prim.Native.Nat.{◌-◌}
use lib.ListN.{length}
use Rattle.listing_log_lines.proofs.Events.{Listing}
use Rattle.listing_log_lines.proofs.each_event.Given as goal

abbrev pub invariant-loop-event : goal.invariant-loop-event
invariant-loop-event l = Listing l.fn.sheet l.initial.state l.log l.sheet l.state l.i l.from

abbrev pub decreases-loop-event : goal.decreases-loop-event
decreases-loop-event l = length l.log - l.from
