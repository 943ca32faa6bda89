-- `fold_cells` meets its contract: so far the cells before this one are folded.
use mathlib.Core.Path.{◌≡◌, refl}
use native.Mathlib.Numerals.{add-one}
use native.Mathlib.Omega.{arith}
use Rattle.bench_tally.specs.Folds.{cells_folded}
use Rattle.bench_tally.proofs.folds.fold_cells.Goals as goal

pub loop-cell-init : goal.loop-cell-init
unfolding cells_folded
loop-cell-init c = refl

pub loop-cell-preserved : goal.loop-cell-preserved
unfolding cells_folded
loop-cell-preserved c = rw (add-one, c.fold-folded.ensures, c.loop-cell.invariant)

pub returns : goal.returns
returns c =
    let l = c.loop-cell in
    let e : l.cell-index ≡ 128 = omega arith in
    rw e at l.invariant
