-- The record at the seat decides as the event's own record does: where there is no such task, no record is looked at; and what is taken is not late.
use Prim.Native.Nat.{ℕ, ◌≤◌, ◌<◌}
use mathlib.Core.Path.{◌≡◌, refl}
use mathlib.Core.Bool.{Bool, true, false, cond}
use native.Mathlib.Omega.{arith}
use borrow.Author.Tests.{ne_eqb, eqb-false, lt-ltb, ltb-true}
use lib.Dec.{eqb, ltb}
use Rattle.laws.proofs.Tests.{by_test}
use Rattle.event_reading.specs.declared.Event.{Event}
use Rattle.event_reading.specs.Event.{fault_of}
use Rattle.task_records.specs.declared.Record.{Record}
use Rattle.task_steps.specs.Opening.{late, expired}
use Rattle.task_steps.specs.Own.{own_fault, own_after}
use Rattle.task_steps.proofs.OwnSteps.{expired_prompt, own_prompt}
use Rattle.apply_ruling.specs.Answer.{Ruling}
use Rattle.apply_ruling.specs.Ruling.{seat_of, taken, kept, own_ruled, ruled}
use Rattle.apply_ruling.proofs.Bars.{Bars, unruled, untimely, no_task_lem, nothing, bar_is}

-- the seat is one of the places
pub seat_below : (task count : ℕ) → 1 ≤ count → seat_of task count < count
seat_below task count h = by_test (λ (k : ℕ). k < count) (ltb task count) task 0 (λ e. ltb-true task count e) (λ e. h)

pub seat_is : (task count : ℕ) → task < count → seat_of task count ≡ task
seat_is task count h = rw (lt-ltb task count h)

module _ (clock count : ℕ) (r : Record) (e : Event) where
  abbrev x : Record
  x = expired r e.time

  -- a ruling that takes its event: the task is there, and its record is not late
  pub record Takes (q : Ruling) : Type 0 where
    pub present : e.task < count
    pub prompt : late q.after e.time ≡ false

  pub ruled_takes : (ruled clock count r e).refusal ≡ 0 → Takes (ruled clock count r e)
  unfolding ruled
  ruled_takes = go (bar_is clock count e)
    where
      own : (b : Bool) → eqb (own_fault x e) 0 ≡ b → (cond b (taken (own_after x e)) (kept (own_fault x e) r)).refusal ≡ 0
          → late (cond b (taken (own_after x e)) (kept (own_fault x e) r)).after e.time ≡ false
      own true q z = own_prompt x e (expired_prompt r e.time)
      own false q z = absurd (eqb-false (own_fault x e) 0 q z)

      go : {n : ℕ} → Bars clock count e n → (cond (eqb n 0) (own_ruled r x e) (kept n r)).refusal ≡ 0 → Takes (cond (eqb n 0) (own_ruled r x e) (kept n r))
      go (unruled q) z = absurd (q (rw (ne_eqb (fault_of e) 0 q) at z))
      go (untimely u q) z = absurd (omega (arith, z))
      go (no_task_lem i c) z = absurd (omega (arith, z))
      go (nothing i c) z = record { present = c; prompt = own (eqb (own_fault x e) 0) refl z }

  -- another record, which is the event's own where the task is there, gives the same number
  pub same_number : (q : Record) → (e.task < count → q ≡ r) → (ruled clock count q e).refusal ≡ (ruled clock count r e).refusal
  unfolding ruled
  same_number q f = go (bar_is clock count e)
    where
      go : {n : ℕ} → Bars clock count e n
          → (cond (eqb n 0) (own_ruled q (expired q e.time) e) (kept n q)).refusal ≡ (cond (eqb n 0) (own_ruled r x e) (kept n r)).refusal
      go (unruled z) = rw (ne_eqb (fault_of e) 0 z)
      go (untimely u z) = refl
      go (no_task_lem i c) = refl
      go (nothing i c) = rw (f c)
