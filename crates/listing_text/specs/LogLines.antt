-- Rules, "The listing": one line per event, and where the reading stopped.
use Rattle.std.specs.Prelude.{ℕ, ◌+◌, List, [], ◌∷◌, ◌++◌}
use Rattle.event_reading.specs.declared.Event.{Event}
use Rattle.event_logs.specs.Stops.{Ending}
use Rattle.event_logs.specs.Stops as E
use Rattle.event_logs.specs.Ending.{ending_of}
use Rattle.state_rules.specs.declared.State.{State}
use Rattle.apply_events.specs.Apply.{applied}
use Rattle.listing_text.specs.EventLines.{event_line}
use Rattle.listing_text.specs.RefusalLines.{stop_line}

-- one line per event in order from number i, refused ones included
unfoldable pub event_lines : ℕ → State → List Event → List ℕ
event_lines i s [] = []
event_lines i s (e ∷ es) = event_line i (applied s e).answer ++ event_lines (i + 1) (applied s e).state es

-- `stop N at O` if a record does not read
abbrev pub stop_by : Ending → List ℕ
stop_by E.Whole = []
stop_by (E.Stopped n offset) = stop_line n offset

-- O counts from the first event byte
unfoldable pub stop_text : List ℕ → List ℕ
stop_text log = stop_by (ending_of log)
