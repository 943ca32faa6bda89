-- `read_in` meets its contract: what was read so far is within the bytes that it was read into, and each turn reads a byte at least.
use Rattle.std.proofs.Common.{length, ◌-◌, ◌≤◌}
use Rattle.listing.proofs.read_in.Given as goal

abbrev pub invariant-loop-done : goal.invariant-loop-done
invariant-loop-done l = l.done ≤ length l.input

abbrev pub decreases-loop-done : goal.decreases-loop-done
decreases-loop-done l = length l.initial.input - l.done
