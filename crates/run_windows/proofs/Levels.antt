-- Level and run as one value, a rung, and what the outcomes of a task's closed jobs make of it: one step a job.
use Prim.Native.Nat.{ℕ, ◌+◌, ◌-◌, ◌≤◌}
use mathlib.Core.Path.{◌≡◌}
use mathlib.Core.Bool.{Bool, true, false, cond}
use mathlib.Core.List.{List, [], ◌∷◌}
use lib.Dec.{eqb, leb}
use lib.IntN.{ℤ}
use Rattle.task_levels.specs.Level.{class_of, raised, lowest, level_holds}
use Rattle.table_rules.specs.declared.Task.{Task}
use Rattle.task_thresholds.specs.Thresholds.{w_of, h_of, top_of}
use Rattle.task_records.specs.declared.Record.{Record}

-- w, h and top of a task
abbrev pub w_for : Task → ℕ
w_for task = w_of task.m task.k

abbrev pub h_for : Task → ℕ
h_for task = h_of task.m task.k

abbrev pub top_for : Task → ℕ
top_for task = top_of task.m task.k

pub record Rung : Type 0 where
  pub level : ℤ
  pub run : ℕ

-- that of a record
abbrev pub rung_of : Record → Rung
rung_of r = record { level = r.level; run = r.run }

-- level 1 - h, run 0
unfoldable pub low_rung : Task → Rung
low_rung task = record { level = lowest (h_for task); run = 0 }

-- a job met: level rises by one, not above the top; run becomes 0
unfoldable pub met_rung : Task → Rung → Rung
met_rung task q = record { level = raised q.level (top_for task); run = 0 }

-- missed in class 0 or with run + 1 >= w
abbrev pub falls_back : Task → Rung → Bool
falls_back task q = cond (eqb (class_of q.level) 0) true (leb (w_for task) (q.run + 1))

-- missed otherwise: run rises by one, level stays
abbrev pub longer : Rung → Rung
longer q = record { level = q.level; run = q.run + 1 }

-- a job missed: set back to level 1 - h and run 0, or a longer run
unfoldable pub missed_rung : Task → Rung → Rung
missed_rung task q = cond (falls_back task q) (low_rung task) (longer q)

-- from fresh, job by job
abbrev pub rung_after : Task → List Bool → Rung
rung_after task [] = low_rung task
rung_after task (true ∷ os) = met_rung task (rung_after task os)
rung_after task (false ∷ os) = missed_rung task (rung_after task os)

-- level and run within range: run at most w - 1, 0 in class 0 and for a hard task
pub record InRange (task : Task) (q : Rung) : Type 0 where
  pub level : level_holds q.level (h_for task) (top_for task) ≡ true
  pub run : q.run ≤ w_for task - 1
  pub required : class_of q.level ≡ 0 → q.run ≡ 0
  pub hard : task.m ≡ 0 → q.run ≡ 0
