-- The event record of 20 bytes: mark 0x45 0x56, kind (1), task (1), job (8), time (8), little-endian. Reading one.
use Rattle.std.specs.Prelude.{ℕ, ◌≤◌, ◌<◌, ◌≡◌, Bool, false, cond, List, ltb, eqb, length, get_or, take, drop}
use Rattle.number_reading.specs.Words.{number}
use Rattle.event_reading.specs.declared.Event.{Event}
use Rattle.event_reading.specs.Reading.{Reading}
use Rattle.event_reading.specs.Reading as R
use Rattle.event_reading.specs.Event.{last_kind, Zeroed, Ruled, fault_of}

-- the bytes of an event record
abbrev pub event_size : ℕ
event_size = 20

-- the mark that a record begins with
pub record Marked (s : List ℕ) : Type 0 where
  pub first : get_or s 0 0 ≡ 0x45
  pub second : get_or s 1 0 ≡ 0x56

-- the four numbers behind the mark
abbrev pub event_of : List ℕ → Event
event_of s = record { kind = get_or s 2 0; task = get_or s 3 0; job = number (take 8 (drop 4 s)); time = number (take 8 (drop 12 s)) }

-- what reading the front of a slice says, rule by rule: the end, then 5, 6, 7, 8, then the event
pub data Reads (s : List ℕ) : Reading → Type 0 where
  ended : length s ≡ 0 → Reads s R.End
  short : 0 < length s → length s < event_size → Reads s (R.Refused 5)
  unmarked : event_size ≤ length s → (Marked s → ⊥) → Reads s (R.Refused 6)
  unknown : event_size ≤ length s → Marked s → last_kind < (event_of s).kind → Reads s (R.Refused 7)
  stray : event_size ≤ length s → Marked s → (event_of s).kind ≤ last_kind → (Zeroed (event_of s) → ⊥) → Reads s (R.Refused 8)
  whole : event_size ≤ length s → Marked s → Ruled (event_of s) → Reads s (R.Event (event_of s))

-- the same as computed tests: `reads_is` and `reads_only` show that they agree
unfoldable pub marks : List ℕ → Bool
marks s = cond (eqb (get_or s 0 0) 0x45) (eqb (get_or s 1 0) 0x56) false

-- an event, or its own refusal
abbrev pub heard : Event → ℕ → Reading
heard e n = cond (eqb n 0) (R.Event e) (R.Refused n)

unfoldable pub read_record : List ℕ → Reading
read_record s =
    cond (eqb (length s) 0) R.End
    (cond (ltb (length s) event_size) (R.Refused 5)
    (cond (marks s) (heard (event_of s) (fault_of (event_of s))) (R.Refused 6)))
