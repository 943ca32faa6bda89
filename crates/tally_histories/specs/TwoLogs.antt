-- Rules, "Tally": the tallies of two logs of the same tasks add up to one.
use Rattle.std.specs.Prelude.{ℕ, ◌<◌, ◌≡◌, List, ◌++◌, ◌↔◌}
use Rattle.event_logs.specs.Stops as E
use Rattle.state_rules.specs.declared.State.{State}
use Rattle.state_rules.specs.Sound.{StateSound}
use Rattle.tally_rules.specs.declared.Tally.{Tally}
use Rattle.tally_rules.specs.Answer.{Accepted, Tallied}
use Rattle.tally_histories.specs.Answer.{Reported}
use Rattle.tally_rules.specs.Tally.{tally_at}
use Rattle.tally_rules.specs.Adding.{accepted}
use Rattle.tally_sums.specs.Joining.{joined}
use Rattle.tally_histories.specs.Sound.{fresh_tallies}
use Rattle.tally_histories.specs.Report.{reported}

-- the report of a log from fresh tallies, and task i's tally in it
abbrev pub report_of : State → List ℕ → Reported
report_of s log = reported s (fresh_tallies s) log

abbrev pub tally_in : State → List ℕ → ℕ → Tally
tally_in s log i = tally_at (report_of s log).tallies i

-- two logs that are reported one after the other, each from fresh tallies: the second from the state that the first left
pub record BothReported (s : State) (a b : List ℕ) : Type 0 where
  pub sound : StateSound s
  pub first : (report_of s a).answer ≡ Accepted
  pub whole : (report_of s a).ending ≡ E.Whole
  pub second : (report_of (report_of s a).state b).answer ≡ Accepted

abbrev pub sum_of_both : State → List ℕ → List ℕ → ℕ → Tallied
sum_of_both s a b i = joined (tally_in s a i) (tally_in (report_of s a).state b i)

-- their tallies join exactly where the two logs as one are reported, and join to that report
pub record AddUp (s : State) (a b : List ℕ) : Type 0 where
  pub answer : ((report_of s (a ++ b)).answer ≡ Accepted) ↔ ((i : ℕ) → i < s.count → (sum_of_both s a b i).answer ≡ Accepted)
  pub tally : (report_of s (a ++ b)).answer ≡ Accepted → (i : ℕ) → i < s.count → sum_of_both s a b i ≡ accepted (tally_in s (a ++ b) i)
