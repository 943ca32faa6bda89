-- `soundness::cells_hold` meets its contract: a turn of the loop is a clause of the test and of the sum, and no cell that was added is past its limit.
use Prim.Native.Nat.{ℕ, ◌*◌, ◌≤◌}
use mathlib.Core.Path.{◌≡◌, refl}
use native.Mathlib.Numerals.{add-one}
use native.Mathlib.Omega.{arith}
use borrow.Author.Tests.{le-leb}
use lib.ListN.{get_or}
use Rattle.laws.specs.Sums.{total}
use Rattle.laws.proofs.Sums.{total_small}
use Rattle.tally_rules.specs.Tally.{cell_count, most_tallied}
use Rattle.tally_rules.specs.Sound.{cells_within}
use Rattle.tally_rules.proofs.Telling.{within_held, within_fails}
use Rattle.tally_rules.proofs.soundness.cells_hold.Goals as goal

pub loop-cell-init : goal.loop-cell-init
unfolding cells_within total
loop-cell-init c = record { within = refl; total = refl }

pub returns-then-cell-gt-MOST_TALLIED : goal.returns-then-cell-gt-MOST_TALLIED
returns-then-cell-gt-MOST_TALLIED c =
    rw (within_fails c.args.tally.cells cell_count c.loop-cell.cell-index c.loop-cell-test.true c.if-cell-gt-MOST_TALLIED.true)

-- what was added up so far is small
pub overflow_add-total : goal.overflow_add-total
overflow_add-total c =
    let l = c.loop-cell in
    let cells = c.args.tally.cells in
    let small : l.total ≤ l.cell-index * most_tallied =
    rw l.invariant.total (total_small (λ (k : ℕ). get_or cells k 0) most_tallied l.cell-index (within_held cells l.cell-index l.invariant.within)) in
    omega arith

pub loop-cell-preserved : goal.loop-cell-preserved
unfolding cells_within total
loop-cell-preserved c =
    let l = c.loop-cell in
    record {
      within = rw (add-one l.cell-index, l.invariant.within) (le-leb _ most_tallied c.if-cell-gt-MOST_TALLIED.false);
      total = rw (add-one l.cell-index, l.invariant.total);
    }

pub returns : goal.returns
returns c =
    let l = c.loop-cell in
    let e : cell_count ≡ l.cell-index = omega arith in
    rw (e, l.invariant.within, l.invariant.total)
