-- Rules, "Order of refusals", for writing an event: the value's own refusal, then 14; bytes past the record stay, and a refused write leaves all.
use Rattle.std.specs.Prelude.{ℕ, ◌^◌, ◌≤◌, ◌<◌, cond, List, [], ◌∷◌, ◌++◌, ltb, eqb, length, drop}
use Rattle.number_writing.specs.Bytes.{bytes}
use Rattle.event_reading.specs.declared.Event.{Event}
use Rattle.event_writing.specs.Answer.{Writing}
use Rattle.event_writing.specs.Answer as W
use Rattle.event_reading.specs.Event.{last_kind, Zeroed, Ruled, fault_of}
use Rattle.event_reading.specs.Record.{event_size}
use Rattle.laws.specs.Said.{Said}

-- the mark, the kind and the task
abbrev pub head_of : ℕ → ℕ → List ℕ
head_of kind task = 0x45 ∷ 0x56 ∷ kind ∷ task ∷ []

-- the bytes of an event
unfoldable pub record_of : Event → List ℕ
record_of e = head_of e.kind e.task ++ (bytes 8 e.job ++ bytes 8 e.time)

-- what writing to a slice says and the slice afterwards, rule by rule: 7, 8, then 14, then the record with the bytes past it as they were
pub data Writes (e : Event) (s : List ℕ) : Writing → List ℕ → Type 0 where
  broken_7 : last_kind < e.kind → Writes e s (W.Refused 7) s
  broken_8 : e.kind ≤ last_kind → (Zeroed e → ⊥) → Writes e s (W.Refused 8) s
  cramped : Ruled e → length s < event_size → Writes e s (W.Refused 14) s
  stored : Ruled e → event_size ≤ length s → Writes e s W.Whole (record_of e ++ drop event_size s)

-- the number of a writing: the value's own refusal, then 14, or 0 where the record is written
abbrev pub write_fault : Event → List ℕ → ℕ
write_fault e s = cond (eqb (fault_of e) 0) (cond (ltb (length s) event_size) 14 0) (fault_of e)

unfoldable pub wrote_record : Event → List ℕ → Writing
wrote_record e s = cond (eqb (write_fault e s) 0) W.Whole (W.Refused (write_fault e s))

-- the slice afterwards: bytes past the record stay, and a refused writing leaves every byte
unfoldable pub after_write : Event → List ℕ → List ℕ
after_write e s = cond (eqb (write_fault e s) 0) (record_of e ++ drop event_size s) s

-- the rules' number for each case
abbrev pub written_said : Writing → Said Event
written_said W.Whole = record { number = 0; values = [] }
written_said (W.Refused n) = record { number = n; values = [] }

-- job and time are what 8 bytes can hold, as those of every event value are
pub record Sized (e : Event) : Type 0 where
  pub job : e.job < 256 ^ 8
  pub time : e.time < 256 ^ 8

-- the bytes of a log of events
unfoldable pub log_of : List Event → List ℕ
log_of [] = []
log_of (e ∷ es) = record_of e ++ log_of es

-- events that can be written: each obeys the rules, and 8 bytes hold its job and its time
unfoldable pub Writable : List Event → Type 0
Writable [] = Unit
Writable (e ∷ es) = (Ruled e × Sized e) × Writable es
