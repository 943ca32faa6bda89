-- The first n events of a log, newest first, are the run whose state, chosen time and closed jobs the places of the log speak of; and what one event more
-- does. By induction on n.
use Prim.Native.Nat.{ℕ, zero, suc, ◌+◌, min, ◌≤◌, ◌<◌}
use mathlib.Core.Path.{◌≡◌, refl, sym, ap}
use mathlib.Core.Bool.{Bool, true, false, cond}
use mathlib.Core.List.{List, [], ◌∷◌, ◌++◌, reverse, reverse-cons, append-nil}
use native.Mathlib.Omega.{arith}
use lib.ListN.{length, take}
use lib.Seq.{take-length}
use Rattle.laws.specs.Numbers.{one_if}
use Rattle.laws.proofs.Sums.{total_same}
use Rattle.event_reading.specs.declared.Event.{Event}
use Rattle.state_rules.specs.declared.State.{State}
use Rattle.apply_events.specs.Apply.{applied}
use Rattle.apply_events.specs.Log.{state_after}
use Rattle.run_histories.specs.History.{Job, run_state, run_record, closes, closed_job, jobs_of, outcomes_of}
use Rattle.run_histories.proofs.InOrder.{onto, told_in_order}
use Rattle.guarantee.specs.ChosenTime.{stands_at, is_choice, chosen_time, open_time}
use Rattle.guarantee_of_logs.specs.Places.{event_at, after_first}
use Rattle.guarantee_of_logs.specs.ChosenTime.{standing_at, chosen_after, open_after}
use Rattle.guarantee_of_logs.specs.Keeps.{closes_at, outcomes_to}

-- the first n events, newest first
abbrev pub newest : List Event → ℕ → List Event
newest es n = onto (take n es) []

-- one more is event n in front of them
pub newest_more : (es : List Event) (n : ℕ) → n < length es → newest es (suc n) ≡ event_at es n ∷ newest es n
newest_more es n h = go es n h []
  where
    go : (es : List Event) (n : ℕ) → n < length es → (past : List Event) → onto (take (suc n) es) past ≡ event_at es n ∷ onto (take n es) past
    go [] n h past = absurd (omega arith)
    go (e ∷ es) zero h past = refl
    go (e ∷ es) (suc n) h past = go es n (omega arith) (e ∷ past)

pub newest_all : (es : List Event) → newest es (length es) ≡ onto es []
newest_all es = ap (λ (l : List Event). onto l []) (take-length es)

module _ (s : State) (es : List Event) where
  pub after_is : (n : ℕ) → after_first s es n ≡ run_state s (newest es n)
  unfolding run_state
  after_is n = told_in_order s (take n es) []

  pub standing_is : (n : ℕ) → n ≤ length es → (y : ℕ) → standing_at s es n y ≡ stands_at s (newest es n) y
  unfolding standing_at stands_at
  standing_is zero h y = refl
  standing_is (suc n) h y =
      rw (after_is (suc n), newest_more es n h, standing_is n (omega arith) y)

  pub open_is : (n : ℕ) → n ≤ length es → (i x : ℕ) → open_after s es n i x ≡ open_time s (newest es n) i x
  unfolding chosen_after chosen_time
  open_is n h i x =
      rw (after_is n)
      (total_same _ _ (min x ((run_record s (newest es n) i).last + (run_record s (newest es n) i).task.d))
      (λ y p. ap (λ (q : State). one_if (is_choice q i (run_record s (newest es n) i).released)) (standing_is n h y)))

  pub closes_is : (n i : ℕ) → n < length es
      → closes_at s es i n ≡ closes (run_record s (newest es n) i) (run_record s (event_at es n ∷ newest es n) i)
  closes_is n i h = rw (after_is n, after_is (suc n), newest_more es n h)

  -- the outcomes oldest first are those of the closed jobs, turned round
  pub outcomes_is : (i n : ℕ) → n ≤ length es → outcomes_to s es i n ≡ reverse (outcomes_of (jobs_of s (newest es n) i))
  unfolding outcomes_to jobs_of
  outcomes_is i zero h = refl
  outcomes_is i (suc n) h =
      let fs = newest es n in
      rw (closes_is n i h, newest_more es n h, outcomes_is i n (omega arith))
      (one_more (closes (run_record s fs i) (run_record s (event_at es n ∷ fs) i)) (closed_job (run_record s fs i) (event_at es n) i) (jobs_of s fs i))
    where
      one_more : (b : Bool) (j : Job) (jobs : List Job)
          → reverse (outcomes_of jobs) ++ cond b (j.met ∷ []) [] ≡ reverse (outcomes_of (cond b (j ∷ jobs) jobs))
      one_more true j jobs = sym (reverse-cons j.met (outcomes_of jobs))
      one_more false j jobs = append-nil (reverse (outcomes_of jobs))

-- ---- one event more, in the order of the log

pub after_more : (s : State) (es : List Event) (n : ℕ) → n < length es → after_first s es (suc n) ≡ (applied (after_first s es n) (event_at es n)).state
unfolding state_after
after_more s [] n h = absurd (omega arith)
after_more s (e ∷ es) zero h = refl
after_more s (e ∷ es) (suc n) h = after_more (applied s e).state es n (omega arith)
