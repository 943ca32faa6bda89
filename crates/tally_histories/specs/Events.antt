-- Rules, "Tally", for events: an accepted completion adds its job's response to its task's tally, and no other event adds anything.
use Rattle.std.specs.Prelude.{ℕ, ◌-◌, Bool, true, false, cond, List, [], ◌∷◌, eqb, set}
use Rattle.event_reading.specs.declared.Event.{Event}
use Rattle.event_reading.specs.Event.{a_completion}
use Rattle.task_records.specs.declared.Record.{Record}
use Rattle.state_rules.specs.declared.State.{State}
use Rattle.state_rules.specs.State.{record_at}
use Rattle.apply_events.specs.Answer.{Answer}
use Rattle.apply_events.specs.Apply.{applied}
use Rattle.run_histories.specs.History.{accepts}
use Rattle.tally_rules.specs.declared.Tallies.{Tallies}
use Rattle.tally_rules.specs.Tally.{tally_at, taken}
use Rattle.tally_rules.specs.Adding.{fits}

-- completion less release of the open job
abbrev pub response_of : Record → Event → ℕ
response_of r e = e.time - r.last

-- an event that was answered so closed a job as met
abbrev pub met_by : Answer → Event → Bool
met_by a e = cond (accepts a) (eqb e.kind a_completion) false

abbrev pub closes_met : State → Event → Bool
closes_met s e = met_by (applied s e).answer e

-- the response of the job that an event closes as met
abbrev pub response_at : State → Event → ℕ
response_at s e = response_of (record_at s e.task) e

-- a response more in the tally of task i
abbrev pub taken_at : Tallies → ℕ → ℕ → Tallies
taken_at ts i r = record { row = set ts.row i (taken (tally_at ts i) r) }

-- the tallies after an event
abbrev pub tallied : State → Tallies → Event → Tallies
tallied s ts e = cond (closes_met s e) (taken_at ts e.task (response_at s e)) ts

-- what it adds fits
abbrev pub admits : State → Tallies → Event → Bool
admits s ts e = cond (closes_met s e) (fits (tally_at ts e.task) (response_at s e)) true

-- the tallies after some events, in the order of the log
unfoldable pub tallies_after : State → Tallies → List Event → Tallies
tallies_after s ts [] = ts
tallies_after s ts (e ∷ es) = tallies_after (applied s e).state (tallied s ts e) es

-- all that they add fits
unfoldable pub all_admit : State → Tallies → List Event → Bool
all_admit s ts [] = true
all_admit s ts (e ∷ es) = cond (admits s ts e) (all_admit (applied s e).state (tallied s ts e) es) false
