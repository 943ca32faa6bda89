-- Rules, "The task table": what table bytes read as.
use Rattle.std.specs.Prelude.{ℕ, ◌*◌, ◌/◌, ◌%◌, ◌≡◌, Bool, false, cond, List, eqb, length, take, drop, replicate, Result, Ok, Err}
use Rattle.laws.specs.Stores.{filled}
use Rattle.table_rules.specs.declared.Task.{Task}
use Rattle.refusals.specs.Numbers.{number_of}
use Rattle.table_rules.specs.declared.Table.{Table}
use Rattle.table_rules.specs.declared.Refused as D
use Rattle.table_rules.specs.Answers.{Answer}
use Rattle.table_rules.specs.Answers.{Accepted, Refused}
use Rattle.table_rules.specs.Limits.{place_count}
use Rattle.table_rules.specs.Rules.{Counted, count_holds, no_task}
use Rattle.table_rules.specs.Judging.{one_then}
use Rattle.table_reading.specs.Row.{task_size, task_of, record_fault}
use Rattle.table_reading.specs.Answers.{TableRead}

-- the bytes of the record at a position
abbrev pub bytes_at : List ℕ → ℕ → List ℕ
bytes_at s i = take task_size (drop (task_size * i) s)

abbrev pub record_fault_at : List ℕ → ℕ → ℕ
record_fault_at s i = record_fault (bytes_at s i)

abbrev pub task_from : List ℕ → ℕ → Task
task_from s i = task_of (bytes_at s i)

-- 16 times a count of 1 to 16
pub record Whole (s : List ℕ) : Type 0 where
  pub records : length s % task_size ≡ 0
  pub counted : Counted (length s / task_size)

abbrev pub bytes_hold : List ℕ → Bool
bytes_hold s = cond (eqb (length s % task_size) 0) (count_holds (length s / task_size)) false

unfoldable pub read_answer : List ℕ → Answer
read_answer s = one_then (bytes_hold s) (record_fault_at s) (length s / task_size)

abbrev pub no_table : Table
no_table = record { count = 0; tasks = replicate place_count no_task }

-- the tasks of n records, and zeros past them
abbrev pub table_of : List ℕ → ℕ → Table
table_of s n = record { count = n; tasks = filled (task_from s) n (replicate place_count no_task) }

-- what the code answers, in these terms: no table is handed over where one is refused
abbrev pub as_table_read : Result Table D.Refused → TableRead
as_table_read (Ok t) = record { answer = Accepted; table = t }
as_table_read (Err r) = record { answer = Refused (number_of r.refusal) r.position; table = no_table }

abbrev pub beside : Answer → Table → TableRead
beside Accepted t = record { answer = Accepted; table = t }
beside (Refused n p) t = record { answer = Refused n p; table = no_table }

unfoldable pub read_table : List ℕ → TableRead
read_table s = beside (read_answer s) (table_of s (length s / task_size))
