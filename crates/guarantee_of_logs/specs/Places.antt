-- The events of a log by their places, 0 the first, and the state after the first n of them.
use Rattle.std.specs.Prelude.{ℕ, Bool, List, get_or, take}
use Rattle.event_reading.specs.declared.Event.{Event}
use Rattle.task_records.specs.declared.Record.{Record}
use Rattle.state_rules.specs.declared.State.{State}
use Rattle.state_rules.specs.State.{record_at}
use Rattle.apply_events.specs.Apply.{applied}
use Rattle.apply_events.specs.Log.{state_after}
use Rattle.run_histories.specs.History.{accepts}

-- event n; past the last one nothing asks for it, and it is all zeros
abbrev pub event_at : List Event → ℕ → Event
event_at es n = get_or es n (record { kind = 0; task = 0; job = 0; time = 0 })

-- the state after the first n events, and task i's record in it
abbrev pub after_first : State → List Event → ℕ → State
after_first s es n = state_after s (take n es)

abbrev pub record_after : State → List Event → ℕ → ℕ → Record
record_after s es n i = record_at (after_first s es n) i

-- event n is accepted where it arrives
abbrev pub accepted_at : State → List Event → ℕ → Bool
accepted_at s es n = accepts (applied (after_first s es n) (event_at es n)).answer
