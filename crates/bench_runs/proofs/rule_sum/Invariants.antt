use mathlib.Core.Path.{◌≡◌}
use Rattle.bench_events.proofs.Making.{Making}
use Rattle.bench_sums.specs.Runs.{event_sum}
use Rattle.bench_runs.proofs.rule_sum.Given as goal

abbrev pub invariant-loop-i : goal.invariant-loop-i
invariant-loop-i l = Making l.initial.next l.i l.next l.kept × (l.sum ≡ event_sum l.initial.next l.i)
