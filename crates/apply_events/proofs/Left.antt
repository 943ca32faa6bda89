-- An accepted event leaves exactly the state that the rules' steps say: its own task's step is one of three, every other task has step 1, and two
-- states that they say are the same, place by place.
use Prim.Native.Nat.{ℕ, ◌≤◌, ◌<◌}
use mathlib.Core.Path.{◌≡◌, refl, sym, ap, subst, ◌∙◌}
use mathlib.Core.Logic.{◌⊎◌, inl, inr, ◌↔◌}
use native.Mathlib.Decide.{ℕ_discrete, dec_lt}
use native.Mathlib.Omega.{arith}
use lib.ListN.{length, get_or, set, length-set}
use lib.Seq.{ext_get_or}
use Rattle.event_reading.specs.declared.Event.{Event}
use Rattle.event_reading.specs.Event.{a_tick}
use Rattle.task_records.specs.declared.Record.{Record}
use Rattle.task_steps.specs.Opening.{expired, no_record}
use Rattle.task_steps.proofs.OwnSteps.{Step, tick, release, completion, after_tick, after_release, after_completion}
use Rattle.state_rules.specs.declared.State.{State}
use Rattle.state_rules.specs.State.{record_at}
use Rattle.apply_events.specs.Answer.{Applied}
use Rattle.apply_events.specs.Answers.{refusal_of}
use Rattle.apply_events.specs.Steps.{expired_all}
use Rattle.apply_events.specs.Apply.{moved, applied}
use Rattle.apply_events.specs.Verdict.{after_one}
use Rattle.apply_events.specs.Leaves.{Leaves}
use Rattle.apply_events.proofs.Happened.{Happened, refusal, acceptance, happened}
use Rattle.apply_events.proofs.Places.{places, expired-length, expired_past, stored_here, stored_else, stored_other, stored_place}

module _ (s : State) (e : Event) {x : Record} (c : e.task < s.count) (o : Step (after_one s e) e x) where
  abbrev t : ℕ
  t = e.time

  module _ (room : s.count ≤ length s.records) where
    here : get_or (set (expired_all s t) e.task x) e.task no_record ≡ x
    here = stored_here s t e.task x room c

    -- all that a tick does, and all that happens to another task
    step_1 : (i : ℕ) → i < s.count → (e.kind ≡ a_tick) ⊎ (i ≡ e.task → ⊥) → get_or (set (expired_all s t) e.task x) i no_record ≡ expired (record_at s i) t
    step_1 i h (inr n) = stored_else s t e.task x room i h n
    step_1 i h (inl k) =
        stored_place s t e.task x (λ (y : Record). y ≡ expired (record_at s i) t) room c i h
        (λ z. after_tick (after_one s e) e o k ∙ ap (λ (j : ℕ). expired (record_at s j) t) (sym z)) (λ z. refl)

    leaves : Leaves s e (moved s t (set (expired_all s t) e.task x))
    leaves =
        record {
          clock = refl;
          count = refl;
          places = simp length-set (expired-length s t);
          others = step_1;
          release = λ k. here ∙ after_release (after_one s e) e o k;
          completion = λ k. here ∙ after_completion (after_one s e) e o k;
          past = λ i h. stored_other s t e.task x i (λ z. omega arith) ∙ expired_past s t i h;
        }

  -- the steps leave one state
  module _ (a b : State) (f : Leaves s e a) (g : Leaves s e b) where
    own : {y : Record} → Step (after_one s e) e y → record_at a e.task ≡ record_at b e.task
    own (tick k) = f.others e.task c (inl k) ∙ sym (g.others e.task c (inl k))
    own (release k n) = f.release k ∙ sym (g.release k)
    own (completion k n) = f.completion k ∙ sym (g.completion k)

    each : (i : ℕ) → Dec (i < s.count) → Dec (i ≡ e.task) → record_at a i ≡ record_at b i
    each i (no n) d = f.past i (omega arith) ∙ sym (g.past i (omega arith))
    each i (yes h) (no d) = f.others i h (inr d) ∙ sym (g.others i h (inr d))
    each i (yes h) (yes d) = rw d (own o)

    one_state : a ≡ b
    one_state =
        same_parts a b (f.count ∙ sym g.count) (f.clock ∙ sym g.clock)
        (ext_get_or no_record a.records b.records (f.places ∙ sym g.places) (λ i l. each i (dec_lt i s.count) (ℕ_discrete i e.task)))
      where
        same_parts : (x y : State) → x.count ≡ y.count → x.clock ≡ y.clock → x.records ≡ y.records → x ≡ y
        same_parts x y p q r =
            ap (λ (n : ℕ). record { count = n; clock = x.clock; records = x.records }) p
            ∙ ap (λ (c : ℕ). record { count = y.count; clock = c; records = x.records }) q
            ∙ ap (moved y y.clock) r

-- an accepted event leaves a state exactly when the steps say so
module _ (s : State) (e : Event) where
  pub leaves_exactly : refusal_of (applied s e).answer ≡ 0 → (q : State) → ((applied s e).state ≡ q) ↔ Leaves s e q
  leaves_exactly a q = go (happened s e) a
    where
      go : {b : Applied} → Happened s e b → refusal_of b.answer ≡ 0 → (b.state ≡ q) ↔ Leaves s e q
      go (refusal n z v) y = absurd (z y)
      go {b} (acceptance h c o) y =
          let l = leaves s e c o (places s h.sound) in
          (λ z. subst (Leaves s e) z l, λ f. one_state s e c o b.state q l f)
