-- What the C function `brumerola_choice` answers for the first n records of a log, and what that tells of the state after n events.
use Rattle.std.specs.Prelude.{ℕ, suc, ◌+◌, ◌*◌, ◌≤◌, ◌≡◌, true, false, cond, List, length, take}
use Rattle.event_reading.specs.declared.Event.{Event}
use Rattle.event_reading.specs.Record.{event_size}
use Rattle.event_logs.specs.Log.{most_bytes, events_of}
use Rattle.state_rules.specs.declared.State.{State}
use Rattle.state_rules.specs.Choice.{chosen}
use Rattle.apply_events.specs.Answer.{Refused}
use Rattle.apply_events.specs.Apply.{applied}
use Rattle.rig_codes.specs.Code.{code_of, begins}
use Rattle.guarantee_of_logs.specs.Places.{event_at, after_first, accepted_at}
use Rattle.guarantee_of_logs.specs.Bytes.{BothRead}

-- the function's answer for the first n records
abbrev pub code_after : List ℕ → List ℕ → ℕ → ℕ
code_after table log n = code_of table (take (event_size * n) log)

-- the chosen position, or 16 for none
abbrev pub choice_code : State → ℕ
choice_code s = cond (chosen s).found (chosen s).at 16

-- what the code after n events tells
pub data CodeTells (s : State) (es : List Event) : ℕ → ℕ → Type 0 where
  -- no event yet, and nothing is chosen
  at_first : (chosen s).found ≡ false → CodeTells s es 0 16
  -- the last event was accepted: the choice that stands after it
  last_accepted : (n : ℕ) → accepted_at s es n ≡ true → CodeTells s es (suc n) (choice_code (after_first s es (suc n)))
  -- or refused: its number, and the state and its choice stay
  last_refused : (n k : ℕ) → (applied (after_first s es n) (event_at es n)).answer ≡ Refused k
      → after_first s es (suc n) ≡ after_first s es n → CodeTells s es (suc n) (32 + k)

-- of the logs that the function looks at, for every number of records
abbrev pub CodesOfLogs : Type 0
CodesOfLogs =
    (table log : List ℕ) → BothRead table log → length log ≤ most_bytes → (n : ℕ) → event_size * n ≤ length log
    → CodeTells (begins table) (events_of log) n (code_after table log n)
