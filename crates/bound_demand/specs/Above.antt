-- Rules, "Response bound": the tasks above a task are those with smaller D, or equal D and smaller position.
use Rattle.std.specs.Prelude.{ℕ, Bool, true, false, cond, ltb, eqb, get_or}
use Rattle.table_rules.specs.declared.Task.{Task}
use Rattle.table_rules.specs.declared.Table.{Table}
use Rattle.table_rules.specs.Order.{Higher}
use Rattle.table_rules.specs.Rules.{no_task}

abbrev pub task_at : Table → ℕ → Task
task_at t i = get_or t.tasks i no_task

-- the task at i stands above the task at k
abbrev pub TaskAbove : Table → ℕ → ℕ → Type 0
TaskAbove t i k = Higher (task_at t i) i (task_at t k) k

-- the same as a test: task a, at position i, above task b, at position k
abbrev pub higher : Task → ℕ → Task → ℕ → Bool
higher a i b k = cond (ltb a.d b.d) true (cond (eqb a.d b.d) (ltb i k) false)

abbrev pub is_above : Table → ℕ → ℕ → Bool
is_above t i k = higher (task_at t i) i (task_at t k) k
