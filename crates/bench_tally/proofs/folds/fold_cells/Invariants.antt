use mathlib.Core.Path.{◌≡◌}
use Rattle.bench_tally.specs.Folds.{cells_folded}
use Rattle.bench_tally.proofs.folds.fold_cells.Given as goal

abbrev pub invariant-loop-cell : goal.invariant-loop-cell
invariant-loop-cell l = l.folded ≡ cells_folded l.sum l.fn.cells l.cell-index
