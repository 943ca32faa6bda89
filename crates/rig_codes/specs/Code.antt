-- Rules, "The bench rig": table bytes and log bytes give one number for the last event.
use Rattle.std.specs.Prelude.{ℕ, ◌+◌, ◌-◌, ◌≤◌, ◌<◌, cond, List, eqb, ltb, length}
use Rattle.table_rules.specs.Answers as T
use Rattle.table_reading.specs.Table.{read_table}
use Rattle.state_rules.specs.declared.State.{State}
use Rattle.state_rules.specs.State.{fresh_state}
use Rattle.event_logs.specs.Log.{most_bytes}
use Rattle.event_logs.specs.Stops.{Ending}
use Rattle.event_logs.specs.Stops as E
use Rattle.apply_events.specs.Answer.{Answer}
use Rattle.apply_events.specs.Answer as A
use Rattle.apply_events.specs.Log.{ran}

-- the answers of the rig
pub data Case : Type 0 where
  chosen : ℕ → Case
  none : Case
  refused : ℕ → Case
  too_long : Case

-- 0 to 15 the chosen task, 16 none, 32 + N for refusal N, 64 for a log that is too long
abbrev pub code_for : Case → ℕ
code_for (chosen p) = p
code_for none = 16
code_for (refused n) = 32 + n
code_for too_long = 64

-- the ranges that the cases keep to: `case_fits` shows it
abbrev pub Fits : Case → Type 0
Fits (chosen p) = p < 16
Fits none = Unit
Fits (refused n) = (1 ≤ n) × (n ≤ 12)
Fits too_long = Unit

-- and what a caller makes of the number: `code_told` shows that it is the case that was meant
abbrev pub case_for : ℕ → Case
case_for x = cond (ltb x 16) (chosen x) (cond (eqb x 16) none (cond (eqb x 64) too_long (refused (x - 32))))

-- the last event's answer
abbrev pub of_answer : Answer → Case
of_answer (A.Run p c) = chosen p
of_answer A.Idle = none
of_answer (A.Refused n) = refused n

-- a reading refusal goes before it
abbrev pub after_reading : Ending → Case → Case
after_reading E.Whole x = x
after_reading (E.Stopped n offset) x = refused n

-- what ended the reading, then the last event's answer; with no event the choice of the state as it stands
unfoldable pub log_case : State → List ℕ → Case
log_case s log = after_reading (ran s log).ending (of_answer (ran s log).answer)

-- a table refusal goes before both
abbrev pub after_table : T.Answer → Case → Case
after_table T.Accepted x = x
after_table (T.Refused n p) x = refused n

-- the state that a table's log begins from
abbrev pub begins : List ℕ → State
begins table = fresh_state (read_table table).table

-- over 65,536 bytes before anything else is looked at
unfoldable pub case_of : List ℕ → List ℕ → Case
case_of table log =
    cond (ltb most_bytes (length log)) too_long
    (after_table (read_table table).answer (log_case (begins table) log))

unfoldable pub code_of : List ℕ → List ℕ → ℕ
code_of table log = code_for (case_of table log)
