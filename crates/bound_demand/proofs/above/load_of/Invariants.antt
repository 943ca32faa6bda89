use Prim.Native.Nat.{◌≤◌}
use mathlib.Core.Path.{◌≡◌}
use Rattle.bound_demand.specs.Load.{count_to, row_to}
use Rattle.bound_demand.proofs.above.load_of.Given as goal

-- what the tasks above among the first i positions ask for
abbrev pub invariant-loop-i : goal.invariant-loop-i
invariant-loop-i l =
    record { few : l.count ≤ l.i; count : l.count ≡ count_to l.fn.table l.k l.i; above : l.above ≡ row_to l.fn.table l.k l.i }
