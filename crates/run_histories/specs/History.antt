-- A run: events applied one after the other from a state, listed newest first, and the jobs that closed in it.
use Rattle.std.specs.Prelude.{ℕ, Bool, true, false, cond, List, [], ◌∷◌, map, eqb}
use Rattle.event_reading.specs.declared.Event.{Event}
use Rattle.event_reading.specs.Event.{a_completion}
use Rattle.task_records.specs.declared.Record.{Record}
use Rattle.state_rules.specs.declared.State.{State}
use Rattle.state_rules.specs.State.{record_at}
use Rattle.apply_events.specs.Answer.{Answer}
use Rattle.apply_events.specs.Answer.{Run, Idle, Refused}
use Rattle.apply_events.specs.Apply.{applied}

-- the state that a run leaves; a refused event leaves the one before it
unfoldable pub run_state : State → List Event → State
run_state s [] = s
run_state s (e ∷ es) = (applied (run_state s es) e).state

-- task i's record in it
abbrev pub run_record : State → List Event → ℕ → Record
run_record s es i = record_at (run_state s es) i

abbrev pub accepts : Answer → Bool
accepts (Run p c) = true
accepts Idle = true
accepts (Refused n) = false

-- the next event of a run is accepted
abbrev pub is_accepted : State → List Event → Event → Bool
is_accepted s es e = accepts (applied (run_state s es) e).answer

-- a closed job: its number, its release, the class that it opened with, when it closed, and met or missed
pub record Job : Type 0 where
  pub number : ℕ
  pub release : ℕ
  pub class : ℕ
  pub closing : ℕ
  pub met : Bool

-- the job that is open before an event is no longer open after it
abbrev pub closes : Record → Record → Bool
closes r q = cond r.live (cond q.live (cond (eqb q.released r.released) false true) true) false

-- it was met if the event is a completion of its task, and missed if not
abbrev pub completes : Event → ℕ → Bool
completes e i = cond (eqb e.kind a_completion) (eqb e.task i) false

abbrev pub closed_job : Record → Event → ℕ → Job
closed_job r e i =
    record { number = r.released; release = r.last; class = r.class; closing = e.time; met = completes e i }

-- the jobs of task i that closed in a run, newest first
unfoldable pub jobs_of : State → List Event → ℕ → List Job
jobs_of s [] i = []
jobs_of s (e ∷ es) i =
    cond (closes (run_record s es i) (run_record s (e ∷ es) i)) (closed_job (run_record s es i) e i ∷ jobs_of s es i) (jobs_of s es i)

-- their outcomes, true for a met job
abbrev pub outcomes_of : List Job → List Bool
outcomes_of jobs = map (λ j. j.met) jobs

-- of every job of a list
abbrev pub Each : (Job → Type 0) → List Job → Type 0
Each P [] = Unit
Each P (j ∷ jobs) = P j × Each P jobs
