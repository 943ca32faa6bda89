-- Rules, "The task table": what a task obeys, and the number of the first rule that it breaks.
use Rattle.std.specs.Prelude.{ℕ, ◌≤◌, ◌<◌, ◌≡◌, Bool, true, cond, [], ◌∷◌, leb, ltb, eqb}
use Rattle.laws.specs.Tests.{all_of}
use Rattle.table_rules.specs.declared.Task.{Task}
use Rattle.table_rules.specs.Limits.{most_tasks, longest_t, widest_k}

-- 1 <= C <= D <= T <= 1,000,000
pub record Times (t : Task) : Type 0 where
  pub some : 1 ≤ t.c
  pub within : t.c ≤ t.d
  pub spaced : t.d ≤ t.t
  pub limit : t.t ≤ longest_t

-- 1 <= K <= 64 and m < K; m = 0 only with K = 1
pub record Misses (t : Task) : Type 0 where
  pub window : 1 ≤ t.k
  pub widest : t.k ≤ widest_k
  pub fewer : t.m < t.k
  pub hard : t.m ≡ 0 → t.k ≡ 1

-- 1 to 16 tasks
pub record Counted (n : ℕ) : Type 0 where
  pub one : 1 ≤ n
  pub most : n ≤ most_tasks

-- the same as tests
abbrev pub times_hold : Task → Bool
times_hold t = all_of (leb 1 t.c ∷ leb t.c t.d ∷ leb t.d t.t ∷ leb t.t longest_t ∷ [])

abbrev pub misses_hold : Task → Bool
misses_hold t =
    all_of (leb 1 t.k ∷ leb t.k widest_k ∷ ltb t.m t.k ∷ cond (eqb t.m 0) (eqb t.k 1) true ∷ [])

abbrev pub count_holds : ℕ → Bool
count_holds n = all_of (leb 1 n ∷ leb n most_tasks ∷ [])

-- 3 for the times, then 4 for m and K; 0 where both rules hold
unfoldable pub task_fault : Task → ℕ
task_fault t = cond (times_hold t) (cond (misses_hold t) 0 4) 3

-- a place that holds no task
abbrev pub no_task : Task
no_task = record { c = 0; d = 0; t = 0; m = 0; k = 0 }
