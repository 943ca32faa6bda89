-- What the search goes by: a task's cost, and what each of the tasks above it asks for.
use Rattle.std.specs.Prelude.{ℕ, zero, suc, ◌+◌, ◌≤◌, ◌<◌, cond, List, ltb, leb, get_or, set, replicate}
use Rattle.laws.specs.Numbers.{one_if}
use Rattle.laws.specs.Sums.{total}
use Rattle.table_rules.specs.declared.Task.{Task}
use Rattle.table_rules.specs.declared.Table.{Table}
use Rattle.table_rules.specs.Limits.{most_tasks, place_count}
use Rattle.bound_demand.specs.declared.Asked.{Asked}
use Rattle.bound_demand.specs.declared.Load.{Load}
use Rattle.bound_demand.specs.Above.{task_at, is_above}
use Rattle.bound_demand.specs.Demand.{cost_of, spacing_of, part_of}

-- what a task above asks for
abbrev pub asked_of : Task → Asked
asked_of t = record { cost = cost_of t; spacing = spacing_of t }

-- a place with no task above
abbrev pub none_asked : Asked
none_asked = record { cost = 0; spacing = 0 }

-- a load of these parts
abbrev pub load_with : ℕ → ℕ → List Asked → Load
load_with own count above = record { own = own; count = count; above = above }

-- a cost alone, with no task above
abbrev pub empty_load : ℕ → Load
empty_load own = load_with own 0 (replicate place_count none_asked)

-- how many of the first i tasks stand above the task at k
abbrev pub count_to : Table → ℕ → ℕ → ℕ
count_to t k i = total (λ j. one_if (is_above t j k)) i

-- what each of these asks for, in the order of the table, and nothing in the places behind them
unfoldable pub row_to : Table → ℕ → ℕ → List Asked
row_to t k zero = replicate place_count none_asked
row_to t k (suc i) = cond (is_above t i k) (set (row_to t k i) (count_to t k i) (asked_of (task_at t i))) (row_to t k i)

-- the load of the task at k; all zeros where the table has too many tasks, or no task at k
unfoldable pub load_at : Table → ℕ → Load
load_at t k =
    cond (ltb most_tasks t.count) (empty_load 0)
    (cond (leb t.count k) (empty_load 0) (load_with (cost_of (task_at t k)) (count_to t k t.count) (row_to t k t.count)))

-- what place i of a row takes of a stretch of r ticks
abbrev pub part_in : List Asked → ℕ → ℕ → ℕ
part_in above r i = part_of (get_or above i none_asked).cost (get_or above i none_asked).spacing r

unfoldable pub load_demand : Load → ℕ → ℕ
load_demand l r = l.own + total (part_in l.above r) l.count

-- a load that can be searched: something to run, and no spacing of 0
pub record Ready (l : Load) : Type 0 where
  pub some : 1 ≤ l.own
  pub few : l.count ≤ place_count
  pub spaced : (i : ℕ) → i < l.count → 1 ≤ (get_or l.above i none_asked).spacing
