-- What an event leaves alone: a refused one the whole state, and any one the tasks' rows, the places past the last task, and, but for
-- what expires, every record of another task.
use Prim.Native.Nat.{ℕ, ◌≤◌, ◌<◌}
use mathlib.Core.Path.{◌≡◌, refl, sym, ap, ◌∙◌}
use mathlib.Core.Logic.{◌⊎◌, inl, inr}
use native.Mathlib.Omega.{arith}
use Rattle.event_reading.specs.declared.Event.{Event}
use Rattle.task_records.specs.declared.Record.{Record}
use Rattle.task_steps.specs.Opening.{expired}
use Rattle.task_steps.proofs.OwnSteps.{expired_task, step_task}
use Rattle.state_rules.specs.declared.State.{State}
use Rattle.state_rules.specs.State.{record_at}
use Rattle.state_rules.specs.Sound.{StateSound}
use Rattle.apply_events.specs.Answer.{Refused}
use Rattle.apply_events.specs.Answer.{Applied}
use Rattle.apply_events.specs.Apply.{applied}
use Rattle.apply_events.proofs.Happened.{never_refused, Happened, refusal, acceptance, happened}
use Rattle.apply_events.proofs.Places.{places, expired_past, stored_else, stored_other, stored_place}

module _ (s : State) (e : Event) where
  -- a refused event returns the state as given, the clock too
  pub refused_stays : (n : ℕ) → (applied s e).answer ≡ Refused n → (applied s e).state ≡ s
  refused_stays n = go (happened s e)
    where
      go : {a : Applied} → Happened s e a → a.answer ≡ Refused n → a.state ≡ s
      go (refusal m z v) q = refl
      go {a} (acceptance h c o) q = absurd (never_refused a.state n q)

  pub count_stays : (applied s e).state.count ≡ s.count
  count_stays = go (happened s e)
    where
      go : {a : Applied} → Happened s e a → a.state.count ≡ s.count
      go (refusal n z v) = refl
      go (acceptance h c o) = refl

  -- no event alters a place past the last task
  pub past_stays : (i : ℕ) → s.count ≤ i → record_at (applied s e).state i ≡ record_at s i
  past_stays i l = go (happened s e)
    where
      go : {a : Applied} → Happened s e a → record_at a.state i ≡ record_at s i
      go (refusal n z v) = refl
      go (acceptance {x} h c o) = stored_other s e.time e.task x i (λ q. omega arith) ∙ expired_past s e.time i l

  -- nor a task's row
  pub row_stays : StateSound s → (i : ℕ) → i < s.count → (record_at (applied s e).state i).task ≡ (record_at s i).task
  row_stays p i l = go (happened s e)
    where
      go : {a : Applied} → Happened s e a → (record_at a.state i).task ≡ (record_at s i).task
      go (refusal n z v) = refl
      go (acceptance {x} h c o) =
          stored_place s e.time e.task x (λ (y : Record). y.task ≡ (record_at s i).task) (places s p) c i l
          (λ z. step_task o ∙ expired_task (record_at s e.task) e.time ∙ ap (λ (j : ℕ). (record_at s j).task) (sym z))
          (λ z. expired_task (record_at s i) e.time)

  -- closing a task's job changes no other record: another task's is as given, or as step 1 leaves it
  pub other_stays : StateSound s → (i : ℕ) → i < s.count → (i ≡ e.task → ⊥)
      → (record_at (applied s e).state i ≡ record_at s i) ⊎ (record_at (applied s e).state i ≡ expired (record_at s i) e.time)
  other_stays p i l n = go (happened s e)
    where
      go : {a : Applied} → Happened s e a → (record_at a.state i ≡ record_at s i) ⊎ (record_at a.state i ≡ expired (record_at s i) e.time)
      go (refusal m z v) = inl refl
      go (acceptance {x} h c o) = inr (stored_else s e.time e.task x (places s p) i l n)
