use mathlib.Core.Path.{◌≡◌}
use Rattle.bench_tally.specs.Folds.{tallies_folded}
use Rattle.bench_tally.proofs.folds.fold_tallies.Given as goal

abbrev pub invariant-loop-tally : goal.invariant-loop-tally
invariant-loop-tally l = l.folded ≡ tallies_folded l.sum l.fn.of l.tally-index
