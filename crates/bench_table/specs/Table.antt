-- The table of the bench: n tasks with C 1.
use Rattle.std.specs.Prelude.{ℕ, ◌+◌, ◌%◌, min, max, cond, [], ◌∷◌, eqb, get_or, replicate}
use Rattle.laws.specs.Stores.{filled}
use Rattle.table_rules.specs.declared.Task.{Task}
use Rattle.table_rules.specs.declared.Table.{Table}
use Rattle.table_rules.specs.Limits.{most_tasks, place_count}
use Rattle.table_rules.specs.Rules.{no_task}

-- 1 to 16 tasks, whatever is asked
abbrev pub count_of : ℕ → ℕ
count_of n = min (max n 1) most_tasks

-- D and T are 11 + position, and 22 where there is one task
abbrev pub spacing_of : ℕ → ℕ → ℕ
spacing_of n i = cond (eqb n 1) 22 (11 + i)

-- (m,K) is number (i + 2) mod 8 of (1,2) (2,3) (1,3) (2,5) (3,5) (63,64) (1,64) (0,1)
abbrev pub misses_of : ℕ → ℕ
misses_of i = get_or (1 ∷ 2 ∷ 1 ∷ 2 ∷ 3 ∷ 63 ∷ 1 ∷ 0 ∷ []) ((i + 2) % 8) 0

abbrev pub window_of : ℕ → ℕ
window_of i = get_or (2 ∷ 3 ∷ 3 ∷ 5 ∷ 5 ∷ 64 ∷ 64 ∷ 1 ∷ []) ((i + 2) % 8) 0

abbrev pub task_at : ℕ → ℕ → Task
task_at n i = record { c = 1; d = spacing_of n i; t = spacing_of n i; m = misses_of i; k = window_of i }

abbrev pub table_of : ℕ → Table
table_of n = record { count = count_of n; tasks = filled (task_at (count_of n)) (count_of n) (replicate place_count no_task) }
