-- Each refusal of an event is given exactly when the rules say, and an event is accepted exactly when none is: what happened is a row of
-- the table, and a row's number is the one that the ruling computes.
use Prim.Native.Nat.{ℕ, ◌<◌}
use mathlib.Core.Path.{◌≡◌, refl, sym, ◌∙◌}
use mathlib.Core.Bool.{Bool, true, false, cond}
use mathlib.Core.Logic.{◌↔◌}
use native.Mathlib.Omega.{arith}
use borrow.Author.Tests.{eqb-true}
use lib.Dec.{eqb}
use lib.ListN.{set}
use Rattle.laws.proofs.Answers.{exactly}
use Rattle.event_reading.specs.declared.Event.{Event}
use Rattle.event_reading.specs.Event.{a_tick, a_release, a_completion}
use Rattle.event_reading.proofs.Rules.{judge_0}
use Rattle.task_records.specs.declared.Record.{Record}
use Rattle.task_steps.specs.Own.{own_fault, own_after}
use Rattle.task_steps.proofs.OwnSteps as O
use Rattle.state_rules.specs.declared.State.{State}
use Rattle.state_rules.specs.State.{record_at}
use Rattle.state_rules.specs.Sound.{StateSound}
use Rattle.apply_ruling.specs.Ruling.{bar_of, taken, kept}
use Rattle.apply_ruling.proofs.Bars as B
use Rattle.apply_events.specs.Answer.{Applied}
use Rattle.apply_events.specs.Answers.{refusal_of}
use Rattle.apply_events.specs.Steps.{expired_all}
use Rattle.apply_events.specs.Apply.{moved, carried_out, applied}
use Rattle.apply_events.specs.Verdict.{after_one, Heard, Verdict, unsound, unruled, untimely, no_task_lem, too_soon_lem, no_job, ticks, releases, completes}
use Rattle.apply_events.proofs.Happened.{accepts, Happened, refusal, acceptance, unsound_is, barred_is, own_is, happened}

module _ (s : State) (e : Event) where
  pub verdict_is : Verdict s e (refusal_of (applied s e).answer)
  verdict_is = go (happened s e)
    where
      go : {a : Applied} → Happened s e a → Verdict s e (refusal_of a.answer)
      go (refusal n z v) = v
      go {a} (acceptance h c (O.tick k)) = rw (accepts a.state) (ticks h k)
      go {a} (acceptance h c (O.release k f)) = rw (accepts a.state) (releases h k c (O.in_turn (after_one s e) e f))
      go {a} (acceptance h c (O.completion k f)) =
          rw (accepts a.state) (completes h (λ z. omega arith) (λ z. omega arith) c (O.job_open (after_one s e) e f))

  -- ---- the other way round: a row's number is the one that is given

  abbrev bar : ℕ
  bar = bar_of s.clock s.count e

  by_bar : StateSound s → {n : ℕ} → B.Bars s.clock s.count e n → (n ≡ 0 → ⊥) → n ≡ refusal_of (applied s e).answer
  by_bar p b z =
      let q = B.bar_only s.clock s.count e b in
      rw (barred_is s e p (λ y. z (sym q ∙ y))) (sym q)

  in_time : Heard s e → B.InTime s.clock s.count e
  in_time h = record { ruled = h.ruled; limited = h.limited; onward = h.onward }

  by_own : Heard s e → e.task < s.count → {n : ℕ} → own_fault (after_one s e) e ≡ n → n ≡ refusal_of (applied s e).answer
  by_own h c {n} o = rw (own_is s e h.sound (B.bar_only s.clock s.count e (B.nothing (in_time h) c)), o) (go (eqb n 0) refl)
    where
      x : Record
      x = own_after (after_one s e) e

      go : (b : Bool) → eqb n 0 ≡ b → n ≡ refusal_of (carried_out s e (cond b (taken x) (kept n (record_at s e.task)))).answer
      go true q = eqb-true n 0 q ∙ sym (accepts (moved s e.time (set (expired_all s e.time) e.task x)))
      go false q = rw q

  by_step : Heard s e → e.task < s.count → {x : Record} → O.Step (after_one s e) e x → 0 ≡ refusal_of (applied s e).answer
  by_step h c o = by_own h c (O.step_only (after_one s e) e o)

  by_fault : Heard s e → e.task < s.count → {n : ℕ} → O.Fault (after_one s e) e n → n ≡ refusal_of (applied s e).answer
  by_fault h c o = by_own h c (O.fault_only (after_one s e) e o)

  -- a tick is of the first task
  first : Heard s e → e.kind ≡ a_tick → e.task < s.count
  first h k = omega (arith, ((judge_0 e).0 h.ruled).zeroed.tick_task k, h.sound.counted.one)

  -- a kind that breaks no rule and is neither of the others
  third : Heard s e → (e.kind ≡ a_tick → ⊥) → (e.kind ≡ a_release → ⊥) → e.kind ≡ a_completion
  third h k r = omega (arith, ((judge_0 e).0 h.ruled).known)

  only : (n : ℕ) → Verdict s e n → n ≡ refusal_of (applied s e).answer
  only n (unsound q) = rw (unsound_is s e q)
  only n (unruled p q) = by_bar p (B.unruled q) q
  only n (untimely p z q) = by_bar p (B.untimely z q) (λ y. omega arith)
  only n (no_task_lem h k c) = by_bar h.sound (B.no_task_lem (in_time h) c) (λ y. omega arith)
  only n (too_soon_lem h k c f) = by_fault h c (O.too_soon_lem k f)
  only n (no_job h k r c f) = by_fault h c (O.no_job (third h k r) f)
  only n (ticks h k) = by_step h (first h k) (O.tick k)
  only n (releases h k c f) = by_step h c (O.release k (rw f))
  only n (completes h k r c f) = by_step h c (O.completion (third h k r) (rw f))

  -- a number is given exactly when its row holds
  pub verdict_exactly : (n : ℕ) → (refusal_of (applied s e).answer ≡ n) ↔ Verdict s e n
  verdict_exactly = exactly (Verdict s e) verdict_is only
