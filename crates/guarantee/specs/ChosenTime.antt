-- Rules, "Chosen time": the number of ticks for which a job was the choice, counted no further than its deadline.
use Rattle.std.specs.Prelude.{ℕ, ◌+◌, min, Bool, false, cond, List, [], ◌∷◌, eqb, leb}
use Rattle.laws.specs.Numbers.{one_if}
use Rattle.laws.specs.Sums.{total}
use Rattle.event_reading.specs.declared.Event.{Event}
use Rattle.state_rules.specs.declared.State.{State}
use Rattle.state_rules.specs.State.{record_at}
use Rattle.state_rules.specs.Choice.{chosen}
use Rattle.run_histories.specs.History.{run_state, run_record}

-- the state that stands at tick y: the last one whose clock is not after y, of a run that starts at clock 0
unfoldable pub stands_at : State → List Event → ℕ → State
stands_at s [] y = s
stands_at s (e ∷ es) y = cond (leb (run_state s (e ∷ es)).clock y) (run_state s (e ∷ es)) (stands_at s es y)

-- job j of task i is the choice
abbrev pub is_choice : State → ℕ → ℕ → Bool
is_choice s i j = cond (chosen s).found (cond (eqb (chosen s).at i) (eqb (record_at s i).released j) false) false

-- the ticks before x and before the deadline d at which job j of task i is the choice
unfoldable pub chosen_time : State → List Event → ℕ → ℕ → ℕ → ℕ → ℕ
chosen_time s es i j d x = total (λ y. one_if (is_choice (stands_at s es y) i j)) (min x d)

-- of task i's open job after the run, up to tick x
abbrev pub open_time : State → List Event → ℕ → ℕ → ℕ
open_time s es i x =
    chosen_time s es i (run_record s es i).released ((run_record s es i).last + (run_record s es i).task.d) x
