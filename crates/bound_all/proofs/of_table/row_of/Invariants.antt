use mathlib.Core.Path.{◌≡◌}
use lib.ListN.{replicate}
use Rattle.laws.specs.Stores.{filled}
use Rattle.table_rules.specs.Answers.{Accepted}
use Rattle.table_rules.specs.Judging.{first_fault}
use Rattle.bound_all.specs.Asked.{bound_fault, bound_cell}
use Rattle.bound_all.proofs.of_table.row_of.Given as goal

-- the positions passed have bounds, and these stand in the row
abbrev pub invariant-loop-i : goal.invariant-loop-i
invariant-loop-i l =
    record {
      none : first_fault (bound_fault l.table) l.i ≡ Accepted;
      cells : l.cells ≡ filled (bound_cell l.table) l.i (replicate 16 0);
    }
