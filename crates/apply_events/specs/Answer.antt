-- What an event or a log answers, in the rules' terms.
use Rattle.std.specs.Prelude.{ℕ, Option, Some, None, Result, Ok, Err}
use Rattle.refusals.specs.declared.Refusal.{Refusal}
use Rattle.refusals.specs.Numbers.{number_of}
use Rattle.event_logs.specs.Stops.{Ending, as_ending}
use Rattle.state_rules.specs.declared.State.{State}
use Rattle.apply_events.specs.declared.Chosen.{Chosen}
use Rattle.apply_events.specs.declared.Applied as DA
use Rattle.apply_events.specs.declared.Ran as DR

-- the chosen task's position and its job's class, none, or a refusal with its number
pub data Answer : Type 0 where
  Run : ℕ → ℕ → Answer
  Idle : Answer
  Refused : ℕ → Answer

pub record Applied : Type 0 where
  pub answer : Answer
  pub state : State

pub record Ran : Type 0 where
  pub answer : Answer
  pub state : State
  pub ending : Ending

-- what the code answers, in these terms
abbrev pub as_told : Result (Option Chosen) Refusal → Answer
as_told (Ok (Some c)) = Run c.position c.class
as_told (Ok None) = Idle
as_told (Err r) = Refused (number_of r)

abbrev pub as_applied : DA.Applied → Applied
as_applied a = record { answer = as_told a.answer; state = a.state }

abbrev pub as_ran : DR.Ran → Ran
as_ran a = record { answer = as_told a.answer; state = a.state; ending = as_ending a.ending }
