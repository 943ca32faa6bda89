-- Chosen time, tick by tick: it never falls, a job that is the choice gets every tick from the clock on, and a later event alters no earlier tick.
use Prim.Native.Nat.{ℕ, ◌+◌, ◌-◌, ◌≤◌, ◌<◌, min}
use mathlib.Core.Path.{◌≡◌, refl, sym, ap, ◌∙◌}
use mathlib.Core.Bool.{true, cond}
use mathlib.Core.List.{List, [], ◌∷◌}
use native.Mathlib.Nat.{min-eq_left}
use native.Mathlib.Decide.{dec_le}
use native.Mathlib.Omega.{arith}
use borrow.Author.Tests.{le-leb, lt-leb}
use lib.Dec.{leb}
use Rattle.laws.specs.Numbers.{one_if}
use Rattle.laws.specs.Sums.{total}
use Rattle.laws.proofs.Sums.{total_same, total-more, total_ones}
use Rattle.event_reading.specs.declared.Event.{Event}
use Rattle.state_rules.specs.declared.State.{State}
use Rattle.run_histories.specs.History.{run_state}
use Rattle.guarantee.specs.ChosenTime.{stands_at, is_choice, chosen_time}

module _ (s : State) where
  -- from its clock on, the newest state stands
  pub stands : (es : List Event) (y : ℕ) → (run_state s es).clock ≤ y → stands_at s es y ≡ run_state s es
  unfolding stands_at run_state
  stands [] y h = refl
  stands (e ∷ es) y h = rw (le-leb _ _ h)

  -- before it, the one that stood
  stood : (e : Event) (es : List Event) (y : ℕ) → y < (run_state s (e ∷ es)).clock → stands_at s (e ∷ es) y ≡ stands_at s es y
  unfolding stands_at
  stood e es y h = rw (lt-leb _ _ h)

  -- an event that leaves the state leaves every tick
  pub unmoved : (e : Event) (es : List Event) → run_state s (e ∷ es) ≡ run_state s es → (y : ℕ) → stands_at s (e ∷ es) y ≡ stands_at s es y
  unfolding stands_at
  unmoved e es q y = go (dec_le (run_state s es).clock y)
    where
      go : Dec ((run_state s es).clock ≤ y)
          → cond (leb (run_state s (e ∷ es)).clock y) (run_state s (e ∷ es)) (stands_at s es y) ≡ stands_at s es y
      go (yes h) = rw (q, le-leb _ _ h) (sym (stands es y h))
      go (no h) = rw (q, lt-leb (run_state s es).clock y (omega arith))

  module _ (i j d : ℕ) where
    abbrev tick : List Event → ℕ → ℕ
    tick es y = one_if (is_choice (stands_at s es y) i j)

    pub time_rises : (es : List Event) (x y : ℕ) → x ≤ y → chosen_time s es i j d x ≤ chosen_time s es i j d y
    unfolding chosen_time
    time_rises es x y h =
        let e : min y d ≡ min x d + (min y d - min x d) = omega arith in
        rw e (total-more (tick es) (min x d) (min y d - min x d))

    -- it is counted no further than the deadline
    pub time_stops : (es : List Event) (x : ℕ) → d ≤ x → chosen_time s es i j d x ≡ chosen_time s es i j d d
    unfolding chosen_time
    time_stops es x h = ap (total (tick es)) (omega arith)

    -- up to the clock of the newest state, the events before it decide
    pub time_before : (e : Event) (es : List Event) (x : ℕ) → x ≤ (run_state s (e ∷ es)).clock → chosen_time s (e ∷ es) i j d x ≡ chosen_time s es i j d x
    unfolding chosen_time
    time_before e es x h =
        total_same (tick (e ∷ es)) (tick es) (min x d) (λ y q. ap (λ (s : State). one_if (is_choice s i j)) (stood e es y (omega arith)))

    pub time_unmoved : (e : Event) (es : List Event) → run_state s (e ∷ es) ≡ run_state s es
        → (x : ℕ) → chosen_time s (e ∷ es) i j d x ≡ chosen_time s es i j d x
    unfolding chosen_time
    time_unmoved e es q x =
        total_same (tick (e ∷ es)) (tick es) (min x d) (λ y h. ap (λ (s : State). one_if (is_choice s i j)) (unmoved e es q y))

    -- the choice has every tick from the clock on, up to its deadline
    pub time_chosen : (es : List Event) (x : ℕ) → is_choice (run_state s es) i j ≡ true → (run_state s es).clock ≤ x → x ≤ d
        → chosen_time s es i j d x ≡ chosen_time s es i j d (run_state s es).clock + (x - (run_state s es).clock)
    unfolding chosen_time
    time_chosen es x c h l =
        let a = (run_state s es).clock in
        let ex : min x d ≡ a + (x - a) = min-eq_left l ∙ omega arith in
        let ea : min a d ≡ a = min-eq_left (omega arith) in
        rw (ex, ea) (total_ones (tick es) a (x - a) (λ y q. ap (λ (s : State). one_if (is_choice s i j)) (stands es y q) ∙ ap one_if c))
