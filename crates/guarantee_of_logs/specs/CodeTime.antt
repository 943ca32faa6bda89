-- Chosen time and the premise, read off what the C function answers along a log.
use Rattle.std.specs.Prelude.{ℕ, zero, suc, ◌+◌, ◌*◌, min, ◌≤◌, ◌<◌, ◌≡◌, true, false, cond, List, ◌↔◌, eqb, leb, ltb, length}
use Rattle.laws.specs.Numbers.{one_if}
use Rattle.laws.specs.Sums.{total}
use Rattle.event_reading.specs.Record.{event_size}
use Rattle.event_logs.specs.Log.{most_bytes, events_of}
use Rattle.task_records.specs.declared.Record.{Record}
use Rattle.guarantee.specs.Premise.{Waits}
use Rattle.guarantee_of_logs.specs.Places.{event_at, record_after}
use Rattle.guarantee_of_logs.specs.ChosenTime.{standing_at, open_after}
use Rattle.guarantee_of_logs.specs.Premise.{LogObeys}
use Rattle.rig_codes.specs.Code.{begins}
use Rattle.guarantee_of_logs.specs.Bytes.{BothRead}
use Rattle.guarantee_of_logs.specs.Codes.{code_after, choice_code}

-- the code that stands at tick y: the answer after the last accepted event, a code below 32, whose time is not after y, and 16 before any
unfoldable pub standing_code : List ℕ → List ℕ → ℕ → ℕ → ℕ
standing_code table log zero y = 16
standing_code table log (suc n) y =
    cond (cond (ltb (code_after table log (suc n)) 32) (leb (event_at (events_of log) n).time y) false) (code_after table log (suc n))
    (standing_code table log n y)

-- task i's record after n events
abbrev pub record_of : List ℕ → List ℕ → ℕ → ℕ → Record
record_of table log n i = record_after (begins table) (events_of log) n i

-- the ticks from the release of task i's last job on, before x and before its deadline, at which task i's code stands
unfoldable pub code_time : List ℕ → List ℕ → ℕ → ℕ → ℕ → ℕ
code_time table log n i x =
    let r = record_of table log n i in
    total (λ y. one_if (cond (leb r.last y) (eqb (standing_code table log n y) i) false)) (min x (r.last + r.task.d))

-- the premise by the answers: accepted is a code below 32, and chosen time is counted by codes
abbrev pub CodesObey : List ℕ → List ℕ → Type 0
CodesObey table log =
    (n : ℕ) → event_size * suc n ≤ length log → code_after table log (suc n) < 32
    → (i x : ℕ) → i < (begins table).count → (record_of table log n i).live ≡ true → (record_of table log n i).task.c ≤ code_time table log n i x
    → Waits (event_at (events_of log) n) x

-- of the logs that the function looks at: the code that stands is the choice that stands, chosen time is the time by codes, and the premise is the
-- one by the answers
pub record Answered (table log : List ℕ) : Type 0 where
  pub choices : (n y : ℕ) → event_size * n ≤ length log → choice_code (standing_at (begins table) (events_of log) n y) ≡ standing_code table log n y
  pub times : (n i x : ℕ) → event_size * n ≤ length log → i < (begins table).count
      → open_after (begins table) (events_of log) n i x ≡ code_time table log n i x
  pub premise : LogObeys (begins table) (events_of log) ↔ CodesObey table log

abbrev pub AnswersOfLogs : Type 0
AnswersOfLogs = (table log : List ℕ) → BothRead table log → length log ≤ most_bytes → Answered table log
