-- Rules, "Chosen time": demand 3's premise. Once an open job's chosen time reaches C at tick x, no event of any kind after x and no
-- release at x is accepted while that job is open, that is, open in the state in which the event arrives.
use Rattle.std.specs.Prelude.{ℕ, ◌≤◌, ◌<◌, ◌≡◌, true, List, [], ◌∷◌}
use Rattle.event_reading.specs.declared.Event.{Event}
use Rattle.event_reading.specs.Event.{a_release}
use Rattle.state_rules.specs.declared.State.{State}
use Rattle.run_histories.specs.History.{run_record, is_accepted}
use Rattle.guarantee.specs.ChosenTime.{open_time}

-- what an accepted event owes to an open job whose chosen time has reached C at x
pub record Waits (e : Event) (x : ℕ) : Type 0 where
  pub not_after : e.time ≤ x
  pub no_release : e.kind ≡ a_release → e.time < x

abbrev pub Timely : State → List Event → Event → Type 0
Timely s es e =
    (i x : ℕ) → i < s.count → (run_record s es i).live ≡ true → (run_record s es i).task.c ≤ open_time s es i x → Waits e x

-- every accepted event of a run is timely
unfoldable pub Premise : State → List Event → Type 0
Premise s [] = Unit
Premise s (e ∷ es) = Premise s es × (is_accepted s es e ≡ true → Timely s es e)
