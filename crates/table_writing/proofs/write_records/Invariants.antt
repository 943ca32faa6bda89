-- The invariant of `write_records`: the first i records stand in front of the old bytes past them.
use Prim.Native.Nat.{◌*◌}
use mathlib.Core.Path.{◌≡◌}
use mathlib.Core.List.{◌++◌}
use lib.ListN.{drop}
use Rattle.table_writing.specs.Writing.{records_of}
use Rattle.table_writing.proofs.write_records.Given as goal

abbrev pub invariant-loop-i : goal.invariant-loop-i
invariant-loop-i l = l.out ≡ records_of l.table.tasks l.i ++ drop (16 * l.i) l.initial.out
