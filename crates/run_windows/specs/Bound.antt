-- Rules, "The three demands", D3: what it promises of a task's windows.
use Rattle.std.specs.Prelude.{ℕ, ◌≤◌, ◌≡◌, Bool, List, drop}
use Rattle.table_rules.specs.declared.Task.{Task}
use Rattle.task_records.specs.declared.Record.{Record}
use Rattle.task_records.specs.Window.{window_of}
use Rattle.run_windows.specs.Outcomes.{last_misses}

-- any K closed jobs in a row, or fewer, hold at most m misses: p jobs closed after them
abbrev pub Within : Task → List Bool → Type 0
Within task os = (p n : ℕ) → n ≤ task.k → last_misses n (drop p os) ≤ task.m

-- so the window number never passes m, and the task is never broken
pub record Kept (task : Task) (os : List Bool) (r : Record) : Type 0 where
  pub within : Within task os
  pub window : window_of r ≤ task.m
  pub broken : r.broken ≡ 0
