-- Rules, "The three demands", D3: for the bytes that the C function takes.
use Rattle.std.specs.Prelude.{ℕ, ◌≤◌, ◌<◌, ◌≡◌, List, length}
use Rattle.table_rules.specs.Answers.{Accepted}
use Rattle.table_reading.specs.Table.{read_table}
use Rattle.event_logs.specs.Log.{most_bytes, events_of}
use Rattle.bound_all.specs.Asked.{all_answer}
use Rattle.guarantee_of_logs.specs.Premise.{LogObeys}
use Rattle.guarantee_of_logs.specs.Keeps.{LogKeeps}
use Rattle.rig_codes.specs.Code.{begins}
use Rattle.guarantee_of_logs.specs.Bytes.{BothRead}
use Rattle.guarantee_of_logs.specs.CodeTime.{CodesObey}

-- for table bytes that read and whose analysis, with room for so many numbers, gives all bounds, and log bytes that read to their end and obey
-- the premise: of every task
abbrev pub GuaranteeOfLogs : Type 0
GuaranteeOfLogs =
    (table log : List ℕ) (room : ℕ) → BothRead table log → all_answer (read_table table).table room ≡ Accepted
    → LogObeys (begins table) (events_of log)
    → (i : ℕ) → i < (read_table table).table.count → LogKeeps (read_table table).table (begins table) (events_of log) i

-- the same where the premise is read off the function's answers, of a log that it looks at
abbrev pub GuaranteeByAnswers : Type 0
GuaranteeByAnswers =
    (table log : List ℕ) (room : ℕ) → BothRead table log → length log ≤ most_bytes → all_answer (read_table table).table room ≡ Accepted
    → CodesObey table log
    → (i : ℕ) → i < (read_table table).table.count → LogKeeps (read_table table).table (begins table) (events_of log) i
