use mathlib.Core.Path.{◌≡◌}
use mathlib.Core.Bool.{true}
use lib.ListN.{get_or}
use Rattle.laws.specs.Sums.{total}
use Rattle.tally_rules.specs.Sound.{cells_within}
use Rattle.tally_rules.proofs.soundness.cells_hold.Given as goal

abbrev pub invariant-loop-cell : goal.invariant-loop-cell
invariant-loop-cell l =
    record {
      within : cells_within l.fn.tally.cells l.cell-index ≡ true;
      total : l.total ≡ total (λ c. get_or l.fn.tally.cells c 0) l.cell-index;
    }
