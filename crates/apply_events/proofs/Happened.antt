-- What happened: an event is refused by a row of the table and changes nothing, or it is accepted, and its own task took a step.
-- One view for all that is shown of an event: the decision is unfolded here alone.
use Prim.Native.Nat.{ℕ, ◌≤◌, ◌<◌}
use mathlib.Core.Path.{◌≡◌, refl, sym, ap, ◌∙◌}
use mathlib.Core.Bool.{cond}
use native.Mathlib.Omega.{arith}
use borrow.Author.Tests.{eq-eqb, ne_eqb}
use lib.Dec.{eqb}
use lib.ListN.{set}
use Rattle.laws.proofs.Tests.{cond_no, by_test, tells_true, tells_false, impossible}
use Rattle.event_reading.specs.declared.Event.{Event}
use Rattle.event_reading.specs.Event.{a_tick, fault_of}
use Rattle.event_reading.proofs.Rules.{judge_0}
use Rattle.task_records.specs.declared.Record.{Record}
use Rattle.task_steps.proofs.OwnSteps as O
use Rattle.state_rules.specs.declared.State.{State}
use Rattle.state_rules.specs.State.{record_at}
use Rattle.state_rules.specs.Sound.{StateSound, state_holds}
use Rattle.state_rules.specs.Choice.{chosen}
use Rattle.state_rules.proofs.Sounding.{state_tells}
use Rattle.apply_ruling.specs.Answer.{Ruling}
use Rattle.apply_ruling.specs.Ruling.{bar_of, taken, kept, own_ruled, ruled}
use Rattle.apply_ruling.proofs.Bars as B
use Rattle.apply_events.specs.Answer.{Answer}
use Rattle.apply_events.specs.Answer.{Refused}
use Rattle.apply_events.specs.Answer.{Applied}
use Rattle.apply_events.specs.Answers.{refusal_of}
use Rattle.apply_events.specs.Steps.{expired_all}
use Rattle.apply_events.specs.Apply.{answer_of, accepted, refused, carried_out, acted, applied}
use Rattle.apply_events.specs.Verdict.{after_one, Heard, Verdict, unsound, unruled, untimely, no_task_lem, too_soon_lem, no_job}

-- an accepted event's answer is no refusal
pub accepts : (s : State) → refusal_of (answer_of s) ≡ 0
accepts s = by_test (λ (a : Answer). refusal_of a ≡ 0) (chosen s).found _ _ (λ f. refl) (λ f. refl)

pub never_refused : (s : State) (n : ℕ) → answer_of s ≡ Refused n → ⊥
never_refused s n =
    by_test (λ (a : Answer). a ≡ Refused n → ⊥) (chosen s).found _ _ (λ f q. impossible cc) (λ f q. impossible cc)

module _ (s : State) (e : Event) where
  -- the records that an accepted event leaves, its own task's being x
  abbrev pub stored : Record → Applied
  stored x = accepted s e.time (set (expired_all s e.time) e.task x)

  -- of which kind it is, its step tells
  pub data Happened : Applied → Type 0 where
    refusal : (n : ℕ) → (n ≡ 0 → ⊥) → Verdict s e n → Happened (refused s n)
    acceptance : {x : Record} → Heard s e → e.task < s.count → O.Step (after_one s e) e x → Happened (stored x)

  -- ---- a ruling carried out

  pub carried_refused : (q : Ruling) → (q.refusal ≡ 0 → ⊥) → carried_out s e q ≡ refused s q.refusal
  carried_refused q z = rw (ne_eqb q.refusal 0 z)

  pub carried_accepted : (q : Ruling) → q.refusal ≡ 0 → carried_out s e q ≡ stored q.after
  carried_accepted q z = rw (eq-eqb q.refusal 0 z)

  -- on a sound state applying is acting
  pub sound_acts : StateSound s → acted s e ≡ applied s e
  unfolding applied
  sound_acts p = rw (tells_true (state_tells s) p)

  pub unsound_is : (StateSound s → ⊥) → applied s e ≡ refused s 15
  unfolding applied
  unsound_is n = rw (tells_false (state_tells s) n)

  -- on a sound state: the number that bars the event, or what its own task's record says
  abbrev r : Record
  r = record_at s e.task

  abbrev bar : ℕ
  bar = bar_of s.clock s.count e

  pub barred_is : StateSound s → (bar ≡ 0 → ⊥) → applied s e ≡ refused s bar
  unfolding ruled
  barred_is p z = sym (sound_acts p) ∙ ap (carried_out s e) (cond_no (eqb bar 0) _ _ (ne_eqb bar 0 z)) ∙ carried_refused (kept bar r) z

  pub own_is : StateSound s → bar ≡ 0 → applied s e ≡ carried_out s e (own_ruled r (after_one s e) e)
  unfolding ruled
  own_is p z = sym (sound_acts p) ∙ rw (eq-eqb bar 0 z)

  -- ---- the view

  module _ (p : StateSound s) where
    heard : B.InTime s.clock s.count e → Heard s e
    heard i = record { sound = p; ruled = i.ruled; limited = i.limited; onward = i.onward }

    -- a tick is of the first task, and that is there
    no_tick : B.InTime s.clock s.count e → s.count ≤ e.task → e.kind ≡ a_tick → ⊥
    no_tick i c k = omega (arith, ((judge_0 e).0 i.ruled).zeroed.tick_task k, p.counted.one)

    by_own : Heard s e → e.task < s.count → {n : ℕ} {x : Record} → O.Own (after_one s e) e n x
        → Happened (carried_out s e (cond (eqb n 0) (taken x) (kept n r)))
    by_own h c (O.refuses (O.too_soon_lem k f)) = refusal 11 (λ z. omega arith) (too_soon_lem h k c f)
    by_own h c (O.refuses (O.no_job k f)) = refusal 12 (λ z. omega arith) (no_job h (λ z. omega arith) (λ z. omega arith) c f)
    by_own h c (O.steps o) = acceptance h c o

    by_bar : {n : ℕ} → B.Bars s.clock s.count e n → Happened (carried_out s e (cond (eqb n 0) (own_ruled r (after_one s e) e) (kept n r)))
    by_bar (B.unruled q) = rw (ne_eqb (fault_of e) 0 q, ne_eqb (fault_of e) 0 q) (refusal (fault_of e) q (unruled p q))
    by_bar (B.untimely z q) = refusal 9 (λ z. omega arith) (untimely p z q)
    by_bar (B.no_task_lem i c) = refusal 10 (λ z. omega arith) (no_task_lem (heard i) (no_tick i c) c)
    by_bar (B.nothing i c) = by_own (heard i) c (O.own_is (after_one s e) e ((judge_0 e).0 i.ruled).known)

  pub happened : Happened (applied s e)
  unfolding applied ruled
  happened =
      by_test Happened (state_holds s) _ _ (λ h. by_bar ((state_tells s).holds h) (B.bar_is s.clock s.count e))
      (λ h. refusal 15 (λ z. omega arith) (unsound ((state_tells s).fails h)))

  -- ---- an accepted event

  -- it was heard, and its task is there
  pub accepted_heard : refusal_of (applied s e).answer ≡ 0 → Heard s e × (e.task < s.count)
  accepted_heard = go happened
    where
      go : {a : Applied} → Happened a → refusal_of a.answer ≡ 0 → Heard s e × (e.task < s.count)
      go (refusal n z v) q = absurd (z q)
      go (acceptance h c o) q = (h, c)

  -- it answers the choice of the state that it leaves
  pub answers_so : refusal_of (applied s e).answer ≡ 0 → (applied s e).answer ≡ answer_of (applied s e).state
  answers_so = go happened
    where
      go : {a : Applied} → Happened a → refusal_of a.answer ≡ 0 → a.answer ≡ answer_of a.state
      go (refusal n z v) q = absurd (z q)
      go (acceptance h c o) q = refl
