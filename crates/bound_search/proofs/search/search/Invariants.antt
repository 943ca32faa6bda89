use Prim.Native.Nat.{ℕ, ◌+◌, ◌-◌, ◌≤◌}
use Rattle.bound_demand.specs.Load.{load_demand}
use Rattle.bound_search.proofs.search.search.Given as goal

-- no number below R fits
abbrev pub invariant-loop-r : goal.invariant-loop-r
invariant-loop-r l = record { some : 1 ≤ l.r; least : (x : ℕ) → 1 ≤ x → load_demand l.load x ≤ x → l.r ≤ x }

abbrev pub decreases-loop-r : goal.decreases-loop-r
decreases-loop-r l = l.limit + 1 - l.r
