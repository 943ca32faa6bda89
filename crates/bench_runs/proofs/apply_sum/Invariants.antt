use Rattle.bench_events.proofs.Making.{Making}
use Rattle.bench_sums.proofs.Running.{Running}
use Rattle.bench_runs.proofs.apply_sum.Given as goal

abbrev pub invariant-loop-i : goal.invariant-loop-i
invariant-loop-i l = Making l.initial.next l.i l.next l.kept × Running l.initial.state l.initial.next l.i l.state l.sum
