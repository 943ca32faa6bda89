-- The rules' sentences on the rig as rules, in their order: each leaves the earlier ones out. `given_exactly` shows that they agree with `case_of`.
use Rattle.std.specs.Prelude.{ℕ, ◌≤◌, ◌<◌, ◌≡◌, List, [], ◌∷◌, ◌++◌, length}
use Rattle.table_rules.specs.Answers as T
use Rattle.table_reading.specs.Table.{read_table}
use Rattle.event_reading.specs.declared.Event.{Event}
use Rattle.event_reading.specs.Reading as R
use Rattle.event_reading.specs.Record.{read_record}
use Rattle.event_logs.specs.Log.{most_bytes, rest_of, events_of}
use Rattle.apply_events.specs.Answer as A
use Rattle.apply_events.specs.Apply.{applied}
use Rattle.apply_events.specs.Log.{state_after}
use Rattle.rig_codes.specs.Code.{Case, none, refused, too_long, of_answer, begins}

-- the log is within the limit and the table is read
pub record Begun (table log : List ℕ) : Type 0 where
  pub within : length log ≤ most_bytes
  pub tabled : (read_table table).answer ≡ T.Accepted

-- and the log is read to its end
pub record Whole (table log : List ℕ) : Type 0 where
  pub begun : Begun table log
  pub ended : read_record (rest_of log) ≡ R.End

pub data Given (table log : List ℕ) : Case → Type 0 where
  -- a log over 65,536 bytes gives 64 before anything else is looked at
  long : most_bytes < length log → Given table log too_long
  -- a table refusal
  bad_table : length log ≤ most_bytes → {n p : ℕ} → (read_table table).answer ≡ T.Refused n p → Given table log (refused n)
  -- and only then a reading refusal: of the record that ended the reading, wherever it stands
  bad_record : Begun table log → {n : ℕ} → read_record (rest_of log) ≡ R.Refused n → Given table log (refused n)
  -- an empty log gives 16
  empty : Begun table log → length log ≡ 0 → Given table log none
  -- one number for the last event
  last : Whole table log → (es : List Event) (e : Event) → events_of log ≡ es ++ (e ∷ [])
      → Given table log (of_answer (applied (state_after (begins table) es) e).answer)

-- where a refusal comes from: its number says it
pub data Source (table log : List ℕ) (n : ℕ) : Type 0 where
  of_table : 1 ≤ n → n ≤ 4 → (p : ℕ) → (read_table table).answer ≡ T.Refused n p → Source table log n
  of_record : 5 ≤ n → n ≤ 8 → read_record (rest_of log) ≡ R.Refused n → Source table log n
  of_event : 9 ≤ n → n ≤ 12 → (es : List Event) (e : Event) → events_of log ≡ es ++ (e ∷ [])
      → (applied (state_after (begins table) es) e).answer ≡ A.Refused n → Source table log n
