-- Rules, "Order of refusals", for writing a table: the value's own refusal, then 14; bytes past what was written stay, and a refused write leaves all.
use Rattle.std.specs.Prelude.{ℕ, zero, suc, ◌*◌, cond, List, [], ◌∷◌, ◌++◌, leb, length, get_or, drop, replicate}
use Rattle.laws.specs.Stores.{filled}
use Rattle.number_writing.specs.Bytes.{bytes}
use Rattle.table_rules.specs.declared.Task.{Task}
use Rattle.table_rules.specs.declared.Table.{Table}
use Rattle.table_rules.specs.Answers.{Answer}
use Rattle.table_rules.specs.Answers.{Accepted, Refused}
use Rattle.table_rules.specs.Limits.{place_count}
use Rattle.table_rules.specs.Rules.{no_task}
use Rattle.table_rules.specs.Judging.{judged}
use Rattle.table_reading.specs.Row.{task_size}

-- the bytes of a task
abbrev pub record_of : Task → List ℕ
record_of t =
    (0x54 ∷ 0x4B ∷ []) ++ bytes 4 t.c ++ bytes 4 t.d ++ bytes 4 t.t ++ (t.m ∷ t.k ∷ [])

-- the records of the first n tasks
unfoldable pub records_of : List Task → ℕ → List ℕ
records_of ts zero = []
records_of ts (suc n) = records_of ts n ++ record_of (get_or ts n no_task)

-- 14 where the value is good and the lent bytes are too few
abbrev pub if_room : Answer → ℕ → ℕ → Answer
if_room Accepted size room = cond (leb size room) Accepted (Refused 14 0)
if_room (Refused n p) size room = Refused n p

unfoldable pub write_answer : Table → ℕ → Answer
write_answer t room = if_room (judged t) (task_size * t.count) room

-- the lent bytes afterwards
abbrev pub left_by : Answer → Table → List ℕ → List ℕ
left_by Accepted t s = records_of t.tasks t.count ++ drop (task_size * t.count) s
left_by (Refused n p) t s = s

unfoldable pub wrote_table : Table → List ℕ → List ℕ
wrote_table t s = left_by (write_answer t (length s)) t s

-- what is written of a table, read back: its count and its first tasks, and zeros past them
abbrev pub tidied : Table → Table
tidied t = record { count = t.count; tasks = filled (λ i. get_or t.tasks i no_task) t.count (replicate place_count no_task) }
