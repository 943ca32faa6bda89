-- Rules, "The three demands", D3: over the engine's own classes, choices and bounds.
use Rattle.std.specs.Prelude.{ℕ, ◌+◌, ◌≤◌, ◌<◌, ◌≡◌, true, List}
use Rattle.event_reading.specs.declared.Event.{Event}
use Rattle.table_rules.specs.declared.Table.{Table}
use Rattle.table_rules.specs.Answers.{Accepted}
use Rattle.run_windows.specs.Bound.{Kept}
use Rattle.state_rules.specs.declared.State.{State}
use Rattle.state_rules.specs.State.{fresh_state}
use Rattle.bound_demand.specs.Above.{task_at}
use Rattle.bound_all.specs.Asked.{all_answer, bound_cell}
use Rattle.run_histories.specs.History.{Job, Each, run_record, jobs_of, outcomes_of}
use Rattle.guarantee.specs.Premise.{Premise}

-- a closed job that opened in class 0 was met, at most the bound after its release
abbrev pub Good : ℕ → Job → Type 0
Good bound j = j.class ≡ 0 → (j.met ≡ true) × (j.closing ≤ j.release + bound)

-- of task i: its closed jobs, and any K of them in a row, its window number and `broken`
pub record Promise (t : Table) (s : State) (es : List Event) (i : ℕ) : Type 0 where
  pub required : Each (Good (bound_cell t i)) (jobs_of s es i)
  pub windows : Kept (task_at t i) (outcomes_of (jobs_of s es i)) (run_record s es i)

-- for every table whose analysis, with room for so many numbers, gives all bounds, and every run from its
-- fresh state that obeys the premise: of every task
abbrev pub Guarantee : Type 0
Guarantee =
    (t : Table) (room : ℕ) → all_answer t room ≡ Accepted
    → (es : List Event) → Premise (fresh_state t) es
    → (i : ℕ) → i < t.count → Promise t (fresh_state t) es i
