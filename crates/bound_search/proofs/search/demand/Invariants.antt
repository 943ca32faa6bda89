use Prim.Native.Nat.{◌+◌, ◌*◌, ◌≤◌}
use mathlib.Core.Path.{◌≡◌}
use Rattle.laws.specs.Sums.{total}
use Rattle.bound_demand.specs.Load.{part_in}
use Rattle.bound_search.proofs.search.demand.Given as goal

-- the own cost and the parts so far, each of them small enough for 64 bits
abbrev pub invariant-loop-asked : goal.invariant-loop-asked
invariant-loop-asked l =
    record {
      sum : l.sum ≡ l.load.own + total (part_in l.load.above l.r) l.asked-index;
      small : l.sum ≤ l.load.own + l.asked-index * (1000000 * 4294967295);
    }
