-- Every event keeps a sound state sound, refused or not: by the steps of one record, position by position.
use Prim.Native.Nat.{ℕ, ◌+◌, ◌≤◌, ◌<◌}
use mathlib.Core.Path.{◌≡◌, refl}
use mathlib.Core.Bool.{Bool, true, false, cond}
use borrow.Author.Tests.{ne_eqb, ltb-false}
use lib.Dec.{eqb}
use lib.ListN.{set}
use Rattle.laws.proofs.Tests.{both_hold}
use Rattle.event_reading.specs.declared.Event.{Event}
use Rattle.task_records.specs.declared.Record.{Record}
use Rattle.task_records.specs.Closing.{closed}
use Rattle.task_steps.specs.Opening.{expired, opened}
use Rattle.task_steps.specs.Own.{too_soon, reopened}
use Rattle.task_steps.proofs.OwnSteps.{Step, tick, release, completion, in_turn, job_open}
use Rattle.task_soundness.specs.Sound.{Sound}
use Rattle.task_soundness.proofs.Kept.{closed_sound, expired_sound, opened_sound}
use Rattle.state_rules.specs.declared.State.{State}
use Rattle.state_rules.specs.State.{record_at}
use Rattle.state_rules.specs.Sound.{limit, StateSound}
use Rattle.apply_events.specs.Answer.{Applied}
use Rattle.apply_events.specs.Steps.{expired_all}
use Rattle.apply_events.specs.Apply.{moved, applied}
use Rattle.apply_events.proofs.Happened.{Happened, refusal, acceptance, happened}
use Rattle.apply_events.proofs.Places.{places, stored_place}

-- ---- one record

-- a release that is not too soon
pub spaced_by : (r : Record) (t : ℕ) → too_soon r t ≡ false → (r.released ≡ 0 → ⊥) → r.last + r.task.t ≤ t
spaced_by r t e n = ltb-false t (r.last + r.task.t) (rw (ne_eqb r.released 0 n) at e)

reopened_sound : (r : Record) (t : ℕ) → Sound r t → t ≤ limit → too_soon r t ≡ false → Sound (reopened r t) t
unfolding closed
reopened_sound r t s l e = go r.live refl
  where
    go : (b : Bool) → r.live ≡ b → Sound (opened (cond b (closed r false) r) t) t
    go true o = opened_sound (closed r false) t (closed_sound r t s o l false) l refl (spaced_by r t e)
    go false o = opened_sound r t s l o (spaced_by r t e)

-- the event's own step
step_sound : (r : Record) (e : Event) → Sound r e.time → e.time ≤ limit → {x : Record} → Step r e x → Sound x e.time
step_sound r e s l (tick k) = s
step_sound r e s l (release k f) = reopened_sound r e.time s l (in_turn r e f)
step_sound r e s l (completion k f) = closed_sound r e.time s (both_hold r.live (eqb r.released e.job) (job_open r e f)).0 l true

-- ---- all records

module _ (s : State) (p : StateSound s) (t : ℕ) (h : s.clock ≤ t) (l : t ≤ limit) where
  after_1 : (i : ℕ) → i < s.count → Sound (expired (record_at s i) t) t
  after_1 i q = expired_sound (record_at s i) s.clock t (p.each i q) h p.clock

  one_sound : (k : ℕ) (x : Record) → k < s.count → Sound x t → StateSound (moved s t (set (expired_all s t) k x))
  one_sound k x b f =
      record {
        counted = p.counted;
        clock = l;
        each = λ i q. stored_place s t k x (λ (r : Record). Sound r t) (places s p) b i q (λ z. f) (λ z. after_1 i q);
      }

-- an event keeps a sound state sound, refused or not
pub applied_sound : (s : State) → StateSound s → (e : Event) → StateSound (applied s e).state
applied_sound s p e = go (happened s e)
  where
    go : {a : Applied} → Happened s e a → StateSound a.state
    go (refusal n z v) = p
    go (acceptance {x} h c o) =
        one_sound s p e.time h.onward h.limited e.task x c
        (step_sound (expired (record_at s e.task) e.time) e (after_1 s p e.time h.onward h.limited e.task c) h.limited o)
