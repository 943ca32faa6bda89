-- A report over a log that comes in chunks: each chunk is reported from the state and the tallies that the chunks before it left.
use Rattle.std.specs.Prelude.{ℕ, ◌+◌, List}
use Rattle.event_logs.specs.Stops.{Ending}
use Rattle.event_logs.specs.Stops as E
use Rattle.state_rules.specs.declared.State.{State}
use Rattle.tally_rules.specs.declared.Tallies.{Tallies}
use Rattle.tally_rules.specs.Answer.{Answer, Accepted, Refused}
use Rattle.tally_histories.specs.Answer.{Reported, withheld}
use Rattle.tally_histories.specs.Report.{reported}

-- an offset counts from the first byte of the whole log
abbrev pub shifted : ℕ → Ending → Ending
shifted n E.Whole = E.Whole
shifted n (E.Stopped k offset) = E.Stopped k (n + offset)

-- the report r of what stands behind n bytes, as one of the whole; where it is refused, all is as given at the start
abbrev pub behind : State → Tallies → ℕ → Answer → Reported → Reported
behind s ts n Accepted r = record { answer = Accepted; state = r.state; tallies = r.tallies; ending = shifted n r.ending }
behind s ts n (Refused k) r = withheld s ts k

-- the report q of a first chunk of n bytes goes on with the bytes behind it, but for one that is refused or has stopped
abbrev pub goes_on : State → Tallies → ℕ → Answer → Ending → Reported → List ℕ → Reported
goes_on s ts n Accepted E.Whole q rest = behind s ts n (reported q.state q.tallies rest).answer (reported q.state q.tallies rest)
goes_on s ts n Accepted (E.Stopped k offset) q rest = q
goes_on s ts n (Refused k) e q rest = q

abbrev pub in_two : State → Tallies → List ℕ → ℕ → List ℕ → Reported
in_two s ts chunk n rest = goes_on s ts n (reported s ts chunk).answer (reported s ts chunk).ending (reported s ts chunk) rest
