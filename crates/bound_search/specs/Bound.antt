-- Rules, "Response bound": the bound of task k is the smallest R from 1 to D of k that is at least the demand at R.
use Rattle.std.specs.Prelude.{ℕ, Option}
use Rattle.table_rules.specs.declared.Table.{Table}
use Rattle.bound_demand.specs.Above.{task_at}
use Rattle.bound_demand.specs.Demand.{demand}
use Rattle.bound_search.specs.Fits.{Smallest, NoneFits, first_fit}

abbrev pub IsBound : Table → ℕ → ℕ → Type 0
IsBound t k r = Smallest (demand t k) (task_at t k).d r

abbrev pub NoBound : Table → ℕ → Type 0
NoBound t k = NoneFits (demand t k) (task_at t k).d

-- the same, found
abbrev pub bound_of : Table → ℕ → Option ℕ
bound_of t k = first_fit (demand t k) (task_at t k).d
