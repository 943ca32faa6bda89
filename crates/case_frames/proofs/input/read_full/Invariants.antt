-- `read_full` meets its contract: the bytes that are read stay within those that are lent, and each round has fewer left to read.
use Rattle.std.proofs.Common.{length, ◌-◌, ◌≤◌}
use Rattle.case_frames.proofs.input.read_full.Given as goal

abbrev pub invariant-loop-done : goal.invariant-loop-done
invariant-loop-done l = l.done ≤ length l.input

abbrev pub decreases-loop-done : goal.decreases-loop-done
decreases-loop-done l = length l.initial.input - l.done
