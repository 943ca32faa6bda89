-- The rules' number and values for each case of a reading.
use Rattle.std.specs.Prelude.{[], ◌∷◌}
use Rattle.laws.specs.Said.{Said}
use Rattle.event_reading.specs.declared.Event.{Event}
use Rattle.event_reading.specs.Reading.{Reading}
use Rattle.event_reading.specs.Reading as R

-- the event that is handed over
abbrev pub read_said : Reading → Said Event
read_said (R.Event e) = record { number = 0; values = e ∷ [] }
read_said R.End = record { number = 0; values = [] }
read_said (R.Refused n) = record { number = n; values = [] }
