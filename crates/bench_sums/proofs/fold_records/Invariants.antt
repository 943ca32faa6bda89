use Rattle.std.proofs.Common.{◌≡◌}
use Rattle.bench_sums.specs.Folds.{records_folded}
use Rattle.bench_sums.proofs.fold_records.Given as goal

abbrev pub invariant-loop-i : goal.invariant-loop-i
invariant-loop-i l = l.folded ≡ records_folded l.sum l.records l.i
