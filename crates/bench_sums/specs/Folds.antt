-- Codes of answers and events, and how they are folded into a sum of 40 bits.
use Rattle.std.specs.Prelude.{ℕ, zero, suc, ◌+◌, ◌*◌, ◌%◌, List, get_or}
use Rattle.event_reading.specs.declared.Event.{Event}
use Rattle.task_records.specs.declared.Record.{Record}
use Rattle.task_steps.specs.Opening.{no_record}
use Rattle.apply_events.specs.Answer.{Answer}
use Rattle.apply_events.specs.Answer.{Run, Idle, Refused}

-- 2^40
abbrev pub span : ℕ
span = 1099511627776

abbrev pub folded : ℕ → ℕ → ℕ
folded sum code = (3 * sum + code) % span

abbrev pub answer_code : Answer → ℕ
answer_code (Run p q) = 64 * p + q
answer_code Idle = 1024
answer_code (Refused n) = 2048 + n

abbrev pub event_code : Event → ℕ
event_code e = e.kind + e.task + e.job % span + e.time % span

-- what a task has counted
abbrev pub record_folded : ℕ → Record → ℕ
record_folded sum r = folded (folded (folded (folded (folded sum r.released) r.met) r.missed) r.marks) r.broken

-- the first n tasks by position
unfoldable pub records_folded : ℕ → List Record → ℕ → ℕ
records_folded sum l zero = sum
records_folded sum l (suc n) = record_folded (records_folded sum l n) (get_or l n no_record)
