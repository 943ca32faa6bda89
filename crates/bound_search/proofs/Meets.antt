-- The number that the search finds is the bound of the rules, the only one, and equal to the demand there: since the first fit is the smallest and the demand
-- never falls.
use Prim.Native.Nat.{ℕ, ◌+◌, ◌≤◌, ◌<◌}
use mathlib.Core.Path.{◌≡◌}
use mathlib.Core.Logic.{◌↔◌}
use native.Mathlib.Nat.{le_trans}
use Rattle.laws.specs.Sums.{total}
use Rattle.table_rules.specs.declared.Table.{Table}
use Rattle.table_rules.specs.Answers.{Accepted}
use Rattle.table_rules.specs.Judging.{judged}
use Rattle.std.specs.Prelude.{Some, None}
use Rattle.bound_demand.specs.Above.{task_at}
use Rattle.bound_demand.specs.Demand.{cost_of, part_at, demand}
use Rattle.bound_search.specs.Bound.{IsBound, NoBound, bound_of}
use Rattle.bound_search.proofs.Fits.{smallest_one, smallest_equal, fit_at, fit_none, fit_at_then, fit_none_then}
use Rattle.bound_demand.proofs.Obeyed.{cost_some}
use Rattle.bound_demand.proofs.Rising.{demand_mono, demand_own}

-- the bound that is found is the smallest R, and nothing is found exactly where there is none
module _ (t : Table) (k : ℕ) where
  pub bound_is : (r : ℕ) → (bound_of t k ≡ Some r) ↔ IsBound t k r
  bound_is r = (fit_at_then (demand t k) (task_at t k).d r, fit_at (demand t k) (task_at t k).d r)

  pub bound_none : (bound_of t k ≡ None) ↔ NoBound t k
  bound_none = (fit_none_then (demand t k) (task_at t k).d, fit_none (demand t k) (task_at t k).d)

module _ (t : Table) (k r : ℕ) (b : IsBound t k r) where
  pub bound_one : (s : ℕ) → IsBound t k s → r ≡ s
  bound_one s c = smallest_one (demand t k) (task_at t k).d r s b c

  pub bound_not_none : NoBound t k → ⊥
  bound_not_none n = n r b.some b.within b.fits

  -- the task's cost and the parts of the tasks above fit into r ticks
  pub bound_holds : cost_of (task_at t k) + total (part_at t k r) t.count ≤ r
  unfolding demand
  bound_holds = b.fits

  pub bound_equal : judged t ≡ Accepted → k < t.count → demand t k r ≡ r
  bound_equal good h =
      smallest_equal (demand t k) (demand_mono t good k) (λ x. le_trans (cost_some t good k h) (demand_own t good k x)) (task_at t k).d r b
