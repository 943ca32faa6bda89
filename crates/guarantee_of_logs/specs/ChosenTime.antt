-- Rules, "Chosen time": the number of ticks for which a job was the choice, counted no further than its deadline; by places of the log.
use Rattle.std.specs.Prelude.{ℕ, zero, suc, ◌+◌, min, ◌≤◌, ◌<◌, ◌≡◌, cond, List, leb}
use Rattle.laws.specs.Numbers.{one_if}
use Rattle.laws.specs.Sums.{total}
use Rattle.event_reading.specs.declared.Event.{Event}
use Rattle.state_rules.specs.declared.State.{State}
use Rattle.guarantee.specs.ChosenTime.{is_choice}
use Rattle.guarantee_of_logs.specs.Places.{after_first, record_after}

-- the state that stands at tick y: the last of those after the first 0 to n events whose clock is not after y
unfoldable pub standing_at : State → List Event → ℕ → ℕ → State
standing_at s es zero y = s
standing_at s es (suc n) y = cond (leb (after_first s es (suc n)).clock y) (after_first s es (suc n)) (standing_at s es n y)

-- q is the last of those states whose clock is not after y: `standing_exactly` shows that it is the one above
pub record StandsLast (s : State) (es : List Event) (n y : ℕ) (q : State) : Type 0 where
  pub place : ℕ
  pub among : place ≤ n
  pub after : q ≡ after_first s es place
  pub not_after : q.clock ≤ y
  pub later : (k : ℕ) → place < k → k ≤ n → y < (after_first s es k).clock

-- the ticks before x and before the deadline d at which job j of task i is the choice
unfoldable pub chosen_after : State → List Event → ℕ → ℕ → ℕ → ℕ → ℕ → ℕ
chosen_after s es n i j d x = total (λ y. one_if (is_choice (standing_at s es n y) i j)) (min x d)

-- of the job of task i that is open after the first n events, up to tick x
abbrev pub open_after : State → List Event → ℕ → ℕ → ℕ → ℕ
open_after s es n i x =
    chosen_after s es n i (record_after s es n i).released ((record_after s es n i).last + (record_after s es n i).task.d) x
