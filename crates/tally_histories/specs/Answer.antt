-- What a report over a log answers, in the rules' terms.
use Rattle.std.specs.Prelude.{ℕ, Result, Ok, Err}
use Rattle.refusals.specs.declared.Refusal.{Refusal}
use Rattle.refusals.specs.Numbers.{number_of}
use Rattle.event_logs.specs.Stops.{Ending, as_ending}
use Rattle.event_logs.specs.Stops as E
use Rattle.state_rules.specs.declared.State.{State}
use Rattle.tally_rules.specs.declared.Tallies.{Tallies}
use Rattle.tally_rules.specs.Answer.{Answer, Accepted, Refused}
use Rattle.tally_histories.specs.declared.Reported as D

-- the state and the tallies beside the answer, and what ended the reading
pub record Reported : Type 0 where
  pub answer : Answer
  pub state : State
  pub tallies : Tallies
  pub ending : Ending

-- a refused report gives back what it was given; nothing of the log counts as read
abbrev pub withheld : State → Tallies → ℕ → Reported
withheld s ts n = record { answer = Refused n; state = s; tallies = ts; ending = E.Stopped n 0 }

-- what the code answers of a state and tallies, in these terms
abbrev pub as_reported : State → Tallies → Result D.Reported Refusal → Reported
as_reported s ts (Ok r) = record { answer = Accepted; state = r.state; tallies = r.tallies; ending = as_ending r.ending }
as_reported s ts (Err r) = withheld s ts (number_of r)
