-- A run goes on event by event: its sum and its state after n events, and one event more.
use Prim.Native.Nat.{ℕ, ◌+◌}
use mathlib.Core.Path.{◌≡◌, refl}
use native.Mathlib.Numerals.{add-one}
use Rattle.event_reading.specs.declared.Event.{Event}
use Rattle.state_rules.specs.declared.State.{State}
use Rattle.apply_events.specs.Answer.{Applied}
use Rattle.apply_events.specs.Apply.{applied}
use Rattle.bench_events.specs.declared.Maker.{Maker}
use Rattle.bench_events.specs.Events.{event_at}
use Rattle.bench_sums.specs.Folds.{folded, event_code, answer_code}
use Rattle.bench_sums.specs.Runs.{event_sum, state_at, answer_sum}

-- the events alone
pub no_events : (k : Maker) → 0 ≡ event_sum k 0
unfolding event_sum
no_events k = refl

pub one_event : (k : Maker) (n x y : ℕ) (e : Event) → x ≡ event_sum k n → e ≡ event_at k n → y ≡ folded x (event_code e) → y ≡ event_sum k (n + 1)
unfolding event_sum
one_event k n x y e p q h = rw (add-one, h, p, q)

-- the engine over them
module _ (s : State) (k : Maker) where
  pub record Running (n : ℕ) (state : State) (sum : ℕ) : Type 0 where
    pub stands : state ≡ state_at s k n
    pub sums : sum ≡ answer_sum s k n

  pub none_run : Running 0 s 0
  unfolding state_at answer_sum
  none_run = record { stands = refl; sums = refl }

  pub one_run : (n : ℕ) (state : State) (sum : ℕ) → Running n state sum → (e : Event) → e ≡ event_at k n → (a : Applied) → a ≡ applied state e
      → (y : ℕ) → y ≡ folded sum (answer_code a.answer) → Running (n + 1) a.state y
  unfolding state_at answer_sum
  one_run n state sum p e q a h y f =
      record { stands = rw (add-one, h, p.stands, q); sums = rw (add-one, f, h, p.sums, p.stands, q) }
