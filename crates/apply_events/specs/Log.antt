-- Rules, "Events and the clock", for a log: the events that read, one after the other, the last answer, and what ended the reading.
use Rattle.std.specs.Prelude.{cond, List, [], ◌∷◌, ℕ}
use Rattle.event_reading.specs.declared.Event.{Event}
use Rattle.event_logs.specs.Stops.{Ending}
use Rattle.event_logs.specs.Stops as E
use Rattle.event_logs.specs.Log.{events_of}
use Rattle.event_logs.specs.Ending.{ending_of}
use Rattle.state_rules.specs.declared.State.{State}
use Rattle.state_rules.specs.Sound.{state_holds}
use Rattle.apply_events.specs.Answer.{Applied}
use Rattle.apply_events.specs.Answer.{Ran}
use Rattle.apply_events.specs.Apply.{answer_of, refused, applied}

-- before any event: the choice as it stands
abbrev pub standing : State → Applied
standing s = record { answer = answer_of s; state = s }

unfoldable pub ran_over : Applied → List Event → Applied
ran_over a [] = a
ran_over a (e ∷ es) = ran_over (applied a.state e) es

-- the state after some events, in the order of the log
unfoldable pub state_after : State → List Event → State
state_after s [] = s
state_after s (e ∷ es) = state_after (applied s e).state es

-- what was done, and what ended the reading
abbrev pub ended_with : Applied → Ending → Ran
ended_with a e = record { answer = a.answer; state = a.state; ending = e }

-- 15 before all: nothing of the log is read for a state that is not sound, so that is what stopped it, at its first byte
unfoldable pub ran : State → List ℕ → Ran
ran s log = cond (state_holds s) (ended_with (ran_over (standing s) (events_of log)) (ending_of log)) (ended_with (refused s 15) (E.Stopped 15 0))
