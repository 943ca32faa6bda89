-- A log is records one behind another. Reading goes from the front and ends at the first record that does not read.
use Rattle.std.specs.Prelude.{ℕ, zero, suc, ◌*◌, List, [], ◌∷◌, length, drop}
use Rattle.event_reading.specs.declared.Event.{Event}
use Rattle.event_reading.specs.Reading.{Reading}
use Rattle.event_reading.specs.Reading as R
use Rattle.event_reading.specs.Record.{event_size, event_of, read_record}

-- the most bytes of a log that the bench rig looks at, and of an input that is listed; reading itself has no such limit
abbrev pub most_bytes : ℕ
most_bytes = 65536

-- one more than n after a record that reads, else none
abbrev pub more : Reading → ℕ → ℕ
more (R.Event e) n = suc n
more R.End n = 0
more (R.Refused k) n = 0

-- how many records read from the front on, of at most n
unfoldable pub readable_in : ℕ → List ℕ → ℕ
readable_in zero s = 0
readable_in (suc n) s = more (read_record s) (readable_in n (drop event_size s))

-- how many records read from the front on; there are no more than bytes
unfoldable pub readable : List ℕ → ℕ
readable s = readable_in (length s) s

-- what reading says at record i; past the last byte nothing is left, which is the end
abbrev pub read_at : List ℕ → ℕ → Reading
read_at s i = read_record (drop (event_size * i) s)

-- the part that is not read
abbrev pub rest_of : List ℕ → List ℕ
rest_of s = drop (event_size * readable s) s

-- the events of the first n records
unfoldable pub events_in : ℕ → List ℕ → List Event
events_in zero s = []
events_in (suc n) s = event_of s ∷ events_in n (drop event_size s)

-- the events of a log: those of the records that read
abbrev pub events_of : List ℕ → List Event
events_of s = events_in (readable s) s
