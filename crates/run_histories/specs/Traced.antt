-- The events behind a closed job: the one that opened it and the one that closed it.
use Rattle.std.specs.Prelude.{ℕ, ◌≡◌, true, List, ◌∷◌}
use Rattle.event_reading.specs.declared.Event.{Event}
use Rattle.event_reading.specs.Event.{a_release}
use Rattle.state_rules.specs.declared.State.{State}
use Rattle.run_histories.specs.History.{Job, run_record, is_accepted, closes}

-- in a run, listed newest first, an event came after the events before it
pub data Came (P : List Event → Event → Type 0) : List Event → Type 0 where
  last : {e : Event} {es : List Event} → P es e → Came P (e ∷ es)
  earlier : {e : Event} {es : List Event} → Came P es → Came P (e ∷ es)

-- an accepted release of task i at t, which left its record with n releases and class c
pub record Opens (s : State) (i n t c : ℕ) (es : List Event) (e : Event) : Type 0 where
  pub accepted : is_accepted s es e ≡ true
  pub kind : e.kind ≡ a_release
  pub task : e.task ≡ i
  pub time : e.time ≡ t
  pub number : (run_record s (e ∷ es) i).released ≡ n
  pub class : (run_record s (e ∷ es) i).class ≡ c

-- an event at t, after which job n is no longer task i's open one
pub record Closes (s : State) (i n t : ℕ) (es : List Event) (e : Event) : Type 0 where
  pub closed : closes (run_record s es i) (run_record s (e ∷ es) i) ≡ true
  pub time : e.time ≡ t
  pub number : (run_record s es i).released ≡ n

-- a closed job of a run: opened at its release with its class, and closed at its closing
pub record Traced (s : State) (es : List Event) (i : ℕ) (j : Job) : Type 0 where
  pub opened : Came (Opens s i j.number j.release j.class) es
  pub closed : Came (Closes s i j.number j.closing) es
