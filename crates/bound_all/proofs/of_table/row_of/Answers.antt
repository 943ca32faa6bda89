-- `row_of` meets its contract: no position was passed at the start, and one that has a bound is no fault.
use Prim.Native.Nat.{ℕ}
use mathlib.Core.Path.{refl}
use native.Mathlib.Numerals.{add-one}
use Rattle.std.proofs.Common.{rules}
use Rattle.laws.specs.Stores.{filled}
use Rattle.table_rules.specs.Judging.{first_fault}
use Rattle.table_rules.proofs.Faults.{none_more}
use Rattle.bound_all.specs.Asked.{bound_fault}
use Rattle.bound_all.proofs.of_table.row_of.Goals as goal

pub loop-i-init : goal.loop-i-init
unfolding first_fault filled
loop-i-init c = record { none = refl; cells = refl }

pub loop-i-preserved : goal.loop-i-preserved
unfolding first_fault filled
loop-i-preserved c = record { none = search rules; cells = search rules }
