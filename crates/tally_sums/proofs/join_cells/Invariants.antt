use mathlib.Core.Path.{◌≡◌}
use mathlib.Core.Bool.{true}
use Rattle.tally_sums.specs.Joining.{both_to, sums_within}
use Rattle.tally_sums.proofs.join_cells.Given as goal

abbrev pub invariant-loop-c : goal.invariant-loop-c
invariant-loop-c l = record { within : sums_within l.a l.b l.c ≡ true; joined : l.tally ≡ both_to l.a l.b l.c }
