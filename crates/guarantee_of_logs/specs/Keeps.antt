-- Rules, "The three demands", D3: what it promises to one task, in the order of the log.
use Rattle.std.specs.Prelude.{ℕ, zero, suc, ◌+◌, ◌≤◌, ◌<◌, ◌≡◌, Bool, true, cond, List, [], ◌∷◌, ◌++◌, length}
use Rattle.event_reading.specs.declared.Event.{Event}
use Rattle.event_reading.specs.Event.{a_completion}
use Rattle.table_rules.specs.declared.Task.{Task}
use Rattle.table_rules.specs.declared.Table.{Table}
use Rattle.task_records.specs.declared.Record.{Record}
use Rattle.task_records.specs.Window.{window_of}
use Rattle.state_rules.specs.declared.State.{State}
use Rattle.bound_demand.specs.Above.{task_at}
use Rattle.bound_all.specs.Asked.{bound_cell}
use Rattle.run_windows.specs.Outcomes.{misses}
use Rattle.run_histories.specs.History.{closes, completes}
use Rattle.guarantee_of_logs.specs.Places.{event_at, record_after}

-- the job of task i that is open before event n is no longer open after it
abbrev pub closes_at : State → List Event → ℕ → ℕ → Bool
closes_at s es i n = closes (record_after s es n i) (record_after s es (suc n) i)

-- the outcomes of the jobs of task i that the first n events closed, oldest first, true for a met job
unfoldable pub outcomes_to : State → List Event → ℕ → ℕ → List Bool
outcomes_to s es i zero = []
outcomes_to s es i (suc n) = outcomes_to s es i n ++ cond (closes_at s es i n) (completes (event_at es n) i ∷ []) []

-- the event is the completion of the open job of task i, at most the bound after its release
pub record MetBy (bound : ℕ) (r : Record) (i : ℕ) (e : Event) : Type 0 where
  pub completion : e.kind ≡ a_completion
  pub task : e.task ≡ i
  pub job : e.job ≡ r.released
  pub soon : e.time ≤ r.last + bound

-- any K of the outcomes in a row, or fewer, hold at most m misses
abbrev pub EachRow : Task → List Bool → Type 0
EachRow task os = (older row newer : List Bool) → os ≡ older ++ row ++ newer → length row ≤ task.k → misses row ≤ task.m

-- a job of class 0 that closes was met within the bound, and no window is broken; a job that is still open when the log ends is not judged
pub record LogKeeps (t : Table) (s : State) (es : List Event) (i : ℕ) : Type 0 where
  pub required : (n : ℕ) → n < length es → closes_at s es i n ≡ true → (record_after s es n i).class ≡ 0
      → MetBy (bound_cell t i) (record_after s es n i) i (event_at es n)
  pub rows : EachRow (task_at t i) (outcomes_to s es i (length es))
  pub window : (n : ℕ) → n ≤ length es → window_of (record_after s es n i) ≤ (task_at t i).m
  pub broken : (n : ℕ) → n ≤ length es → (record_after s es n i).broken ≡ 0
