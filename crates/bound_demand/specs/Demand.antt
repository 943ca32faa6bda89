-- Rules, "Response bound": C of k plus, for each task i above, ceil (R / T of i) times C of i.
use Rattle.std.specs.Prelude.{ℕ, ◌+◌, ◌*◌, cond}
use Rattle.laws.specs.Numbers.{ceiling}
use Rattle.laws.specs.Sums.{total}
use Rattle.table_rules.specs.declared.Task.{Task}
use Rattle.table_rules.specs.declared.Table.{Table}
use Rattle.bound_demand.specs.Above.{task_at, is_above}

-- what one job of a task costs, for itself and for every task below
abbrev pub cost_of : Task → ℕ
cost_of t = t.c

-- how far apart the jobs of a task above are counted
abbrev pub spacing_of : Task → ℕ
spacing_of t = t.t

-- ceil (r / spacing) times cost
abbrev pub part_of : ℕ → ℕ → ℕ → ℕ
part_of cost spacing r = ceiling r spacing * cost

-- what the task at i takes of a stretch of r ticks from the task at k
abbrev pub part_at : Table → ℕ → ℕ → ℕ → ℕ
part_at t k r i = cond (is_above t i k) (part_of (cost_of (task_at t i)) (spacing_of (task_at t i)) r) 0

-- what the task at k and all above it ask for in a stretch of r ticks
unfoldable pub demand : Table → ℕ → ℕ → ℕ
demand t k r = cost_of (task_at t k) + total (part_at t k r) t.count
