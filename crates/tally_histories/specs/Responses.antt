-- Rules, "Tally", for a history: the responses of a task's met jobs, and the tally that they make.
use Rattle.std.specs.Prelude.{ℕ, ◌-◌, ◌<◌, cond, List, [], ◌∷◌, reverse}
use Rattle.event_reading.specs.declared.Event.{Event}
use Rattle.event_logs.specs.Log.{events_of}
use Rattle.state_rules.specs.declared.State.{State}
use Rattle.run_histories.specs.History.{Job, jobs_of}
use Rattle.tally_rules.specs.declared.Tally.{Tally}
use Rattle.tally_rules.specs.declared.Tallies.{Tallies}
use Rattle.tally_rules.specs.Tally.{tally_at, tally_over}
use Rattle.tally_rules.specs.Responses.{Within}

-- completion less release of the met jobs, in their order
abbrev pub responses_of : List Job → List ℕ
responses_of [] = []
responses_of (j ∷ jobs) = cond j.met ((j.closing - j.release) ∷ responses_of jobs) (responses_of jobs)

-- task i's tally after a run: the responses of the met jobs that it closed, on top of the tally before
abbrev pub tally_after : State → Tallies → List Event → ℕ → Tally
tally_after s ts es i = tally_over (tally_at ts i) (responses_of (jobs_of s es i))

-- the events of a log as a run, newest first
abbrev pub run_of : List ℕ → List Event
run_of log = reverse (events_of log)

-- every task's tally stays within the limits
abbrev pub AllWithin : State → Tallies → List Event → Type 0
AllWithin s ts es = (i : ℕ) → i < s.count → Within (tally_after s ts es i)
