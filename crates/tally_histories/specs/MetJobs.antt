-- Rules, "Tally": the cells sum to the met jobs of the history.
use Rattle.std.specs.Prelude.{ℕ, ◌≡◌, List}
use Rattle.laws.specs.Sums.{total}
use Rattle.event_reading.specs.declared.Event.{Event}
use Rattle.state_rules.specs.declared.State.{State}
use Rattle.run_windows.specs.Outcomes.{mets}
use Rattle.run_histories.specs.History.{run_record, jobs_of, outcomes_of}
use Rattle.run_histories.specs.Counted.{completions_of}
use Rattle.tally_rules.specs.declared.Tally.{Tally}
use Rattle.tally_rules.specs.Tally.{cell_count, cell_at}

abbrev pub cells_of : Tally → ℕ
cells_of t = total (cell_at t) cell_count

-- of task i's tally after a run
pub record CellsMet (s : State) (es : List Event) (i : ℕ) (t : Tally) : Type 0 where
  -- the jobs that closed as met
  pub jobs : cells_of t ≡ mets (outcomes_of (jobs_of s es i))
  -- which its record counts
  pub met : cells_of t ≡ (run_record s es i).met
  -- and which its accepted completions are
  pub completions : cells_of t ≡ completions_of s es i
