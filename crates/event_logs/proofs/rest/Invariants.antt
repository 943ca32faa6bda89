-- The invariant and the measure of `rest`: what is left has the same rest as the log, and grows shorter.
use mathlib.Core.Path.{◌≡◌}
use lib.ListN.{length}
use Rattle.event_logs.specs.Log.{rest_of}
use Rattle.event_logs.proofs.rest.Given as goal

abbrev pub invariant-loop-left : goal.invariant-loop-left
invariant-loop-left l = rest_of l.left ≡ rest_of l.log

abbrev pub decreases-loop-left : goal.decreases-loop-left
decreases-loop-left l = length l.left
