use mathlib.Core.Path.{◌≡◌}
use Rattle.bench.specs.Asked.{bound_sum}
use Rattle.bench.proofs.bounds.sum.Given as goal

abbrev pub invariant-loop-k : goal.invariant-loop-k
invariant-loop-k l = l.sum ≡ bound_sum l.table l.k
