-- Whether a run obeys the premise, as a test of each event at one tick: chosen time never falls, so the latest tick at which an open job has to be short of C
-- decides for all. What an event owes is a parameter, so that weaker premises can be tried too.
use Prim.Native.Nat.{ℕ, zero, suc, ◌+◌, ◌-◌, ◌≤◌, ◌<◌}
use mathlib.Core.Path.{◌≡◌}
use mathlib.Core.Bool.{Bool, true, false, cond}
use mathlib.Core.List.{List, [], ◌∷◌}
use native.Mathlib.Decide.{dec_le, dec_lt, ℕ_discrete}
use native.Mathlib.Nat.{not-suc-le-zero}
use native.Mathlib.Omega.{arith}
use borrow.Author.Tests.{eq-eqb, ltb-true}
use lib.Dec.{eqb, ltb}
use Rattle.laws.specs.Tests.{whenever}
use Rattle.laws.proofs.Tests.{both_hold, whenever_holds}
use Rattle.event_reading.specs.declared.Event.{Event}
use Rattle.state_rules.specs.declared.State.{State}
use Rattle.run_histories.specs.History.{run_record, is_accepted}
use Rattle.guarantee.specs.ChosenTime.{open_time}
use Rattle.guarantee.specs.Premise.{Waits, Timely, Premise}
use Rattle.guarantee.proofs.Ticks.{time_rises}

-- the open job of task i is short of C at tick y
abbrev pub short_holds : State → List Event → ℕ → ℕ → Bool
short_holds s es i y = whenever (run_record s es i).live (ltb (open_time s es i y) (run_record s es i).task.c)

-- of the first n tasks
unfoldable pub short_to : State → List Event → ℕ → ℕ → Bool
short_to s es y zero = true
short_to s es y (suc n) = cond (short_to s es y n) (short_holds s es n y) false

-- at each accepted event every open job is short of C at the tick that f gives
unfoldable pub obeys_at : (Event → ℕ) → State → List Event → Bool
obeys_at f s [] = true
obeys_at f s (e ∷ es) = cond (obeys_at f s es) (whenever (is_accepted s es e) (short_to s es (f e) s.count)) false

-- the premise with `Owes` for what an accepted event owes to an open job that has had its time at x
unfoldable pub Obeys : (Event → ℕ → Type 0) → State → List Event → Type 0
Obeys Owes s [] = Unit
Obeys Owes s (e ∷ es) =
    Obeys Owes s es
    × (is_accepted s es e ≡ true → (i x : ℕ) → i < s.count → (run_record s es i).live ≡ true → (run_record s es i).task.c ≤ open_time s es i x → Owes e x)

module _ (s : State) (es : List Event) where
  -- an open job's chosen time never falls
  open_rises : (i x y : ℕ) → x ≤ y → open_time s es i x ≤ open_time s es i y
  open_rises i x y h = time_rises s i (run_record s es i).released ((run_record s es i).last + (run_record s es i).task.d) es x y h

  short_each : (y n : ℕ) → short_to s es y n ≡ true → (i : ℕ) → i < n → short_holds s es i y ≡ true
  unfolding short_to
  short_each y zero h i p = absurd (not-suc-le-zero p)
  short_each y (suc n) h i p = go (ℕ_discrete i n) (short_each y n (both_hold (short_to s es y n) (short_holds s es n y) h).0 i)
    where
      go : Dec (i ≡ n) → (i < n → short_holds s es i y ≡ true) → short_holds s es i y ≡ true
      go (yes z) k = rw z (both_hold (short_to s es y n) (short_holds s es n y) h).1
      go (no z) k = k (omega arith)

  -- what has had its time at x was short before x
  short_before : (i x y : ℕ) → i < s.count → (run_record s es i).live ≡ true → (run_record s es i).task.c ≤ open_time s es i x
      → short_to s es y s.count ≡ true → y < x
  short_before i x y p l c q = go (dec_lt y x)
    where
      go : Dec (y < x) → y < x
      go (yes h) = h
      go (no h) =
          let b = whenever_holds (run_record s es i).live (ltb (open_time s es i y) (run_record s es i).task.c) (short_each y s.count q i p) l in
          absurd (omega (arith, open_rises i x y (omega arith), ltb-true (open_time s es i y) (run_record s es i).task.c b))

-- a run that passes the test obeys the premise that the test's tick gives
pub obeys_by : (Owes : Event → ℕ → Type 0) (f : Event → ℕ) → ((e : Event) (x : ℕ) → f e < x → Owes e x)
    → (s : State) (es : List Event) → obeys_at f s es ≡ true → Obeys Owes s es
unfolding obeys_at Obeys
obeys_by Owes f owes s [] h = tt
obeys_by Owes f owes s (e ∷ es) h =
    let b = both_hold (obeys_at f s es) (whenever (is_accepted s es e) (short_to s es (f e) s.count)) h in (
      obeys_by Owes f owes s es b.0,
      λ a i x p l c. owes e x (short_before s es i x (f e) p l c (whenever_holds (is_accepted s es e) (short_to s es (f e) s.count) b.1 a)),
    )

pub premise_of : (s : State) (es : List Event) → Obeys Waits s es → Premise s es
unfolding Obeys Premise
premise_of s [] o = tt
premise_of s (e ∷ es) o = (premise_of s es o.0, o.1)

-- the rules': a release's own tick, or the one before another event's
abbrev pub short_at : Event → ℕ
short_at e = cond (eqb e.kind 1) e.time (e.time - 1)

waits_by : (e : Event) (x : ℕ) → short_at e < x → Waits e x
waits_by e x b = record { not_after = go (eqb e.kind 1) b; no_release = λ k. rw (eq-eqb _ _ k) at b }
  where
    go : (b : Bool) → cond b e.time (e.time - 1) < x → e.time ≤ x
    go true q = omega arith
    go false q = omega arith

pub premise_by : (s : State) (es : List Event) → obeys_at short_at s es ≡ true → Premise s es
premise_by s es h = premise_of s es (obeys_by Waits short_at waits_by s es h)

-- the tick at which the chosen time of task i's open job reaches C
pub record Reaches (s : State) (es : List Event) (i x : ℕ) : Type 0 where
  pub full : (run_record s es i).task.c ≤ open_time s es i x
  pub first : (y : ℕ) → y < x → open_time s es i y < (run_record s es i).task.c

-- what is owed at that tick is owed at every later one: the premise asks for no more
pub once_reached : (s : State) (es : List Event) (e : Event)
    → ((i x : ℕ) → i < s.count → (run_record s es i).live ≡ true → Reaches s es i x → Waits e x) → Timely s es e
once_reached s es e w i x p l c = at x c
  where
    at : (x : ℕ) → (run_record s es i).task.c ≤ open_time s es i x → Waits e x
    at zero c = w i 0 p l (record { full = c; first = λ y h. absurd (not-suc-le-zero h) })
    at (suc x) c = go (dec_le (run_record s es i).task.c (open_time s es i x)) (at x)
      where
        go : Dec ((run_record s es i).task.c ≤ open_time s es i x) → ((run_record s es i).task.c ≤ open_time s es i x → Waits e x) → Waits e (suc x)
        go (yes h) k = let v = k h in record { not_after = omega (arith, v.not_after); no_release = λ z. omega (arith, v.no_release z) }
        go (no h) k = w i (suc x) p l (record { full = c; first = λ y q. omega (arith, open_rises s es i y x (omega arith)) })
