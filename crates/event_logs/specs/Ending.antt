-- What ended the reading of a log: no bytes were left, or a record that does not read, with its refusal and its offset.
use Rattle.std.specs.Prelude.{ℕ, ◌+◌, ◌*◌, ◌<◌, ◌≡◌, List, [], ◌∷◌, length, drop}
use Rattle.laws.specs.Said.{Said}
use Rattle.event_reading.specs.declared.Event.{Event}
use Rattle.event_reading.specs.Reading.{Reading}
use Rattle.event_reading.specs.Reading as R
use Rattle.event_reading.specs.Record.{event_size, read_record}
use Rattle.event_logs.specs.Stops.{Ending}
use Rattle.event_logs.specs.Stops as E
use Rattle.event_logs.specs.Log.{readable, read_at}

-- the first n records of a log read
abbrev pub FirstRead : List ℕ → ℕ → Type 0
FirstRead log n = (i : ℕ) → i < n → (e : Event) × (read_at log i ≡ R.Event e)

-- how the reading of a log ends, rule by rule
pub data Ends (log : List ℕ) : Ending → Type 0 where
  -- records that read, and no bytes left
  whole : (n : ℕ) → FirstRead log n → event_size * n ≡ length log → Ends log E.Whole
  -- records that read, and at that byte one that does not
  stopped : (n : ℕ) → FirstRead log n → {number : ℕ} → read_at log n ≡ R.Refused number → Ends log (E.Stopped number (event_size * n))

-- the same as computed: `ends_is` and `ends_only` show that they agree. No event stands where a reading ended (`rest_silent`)
abbrev pub ended_by : Reading → ℕ → Ending
ended_by (R.Event e) offset = E.Whole
ended_by R.End offset = E.Whole
ended_by (R.Refused n) offset = E.Stopped n offset

-- what reading says at an offset, which counts from the log's first byte
abbrev pub ending_at : List ℕ → ℕ → Ending
ending_at log offset = ended_by (read_record (drop offset log)) offset

-- the reading ends behind the records that read
abbrev pub ending_of : List ℕ → Ending
ending_of log = ending_at log (event_size * readable log)

-- a reading that goes on at a place ends behind the records that read from there on
abbrev pub ending_from : List ℕ → ℕ → Ending
ending_from log from = ending_at log (from + event_size * readable (drop from log))

-- the rules' number, and the offset that goes with one
abbrev pub end_said : Ending → Said ℕ
end_said E.Whole = record { number = 0; values = [] }
end_said (E.Stopped n offset) = record { number = n; values = offset ∷ [] }
