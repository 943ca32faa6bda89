-- Every state that a run reaches is sound, with the table's rows in its records: since every event keeps that.
use Prim.Native.Nat.{ℕ, ◌≤◌, ◌<◌}
use mathlib.Core.Path.{◌≡◌, refl, ◌∙◌}
use mathlib.Core.List.{List, [], ◌∷◌}
use native.Mathlib.Nat.{le_refl}
use lib.ListN.{length, get_or, replicate, length-set}
use Rattle.laws.proofs.Stores.{length_filled, filled_past}
use Rattle.event_reading.specs.declared.Event.{Event}
use Rattle.table_rules.specs.declared.Table.{Table}
use Rattle.table_rules.specs.Answers.{Accepted}
use Rattle.table_rules.specs.Judging.{judged}
use Rattle.task_steps.specs.Opening.{fresh, no_record}
use Rattle.state_rules.specs.declared.State.{State}
use Rattle.state_rules.specs.State.{record_at, fresh_state}
use Rattle.state_rules.specs.Sound.{StateSound}
use Rattle.state_rules.proofs.Starting.{fresh_at, start_sound}
use Rattle.bound_demand.specs.Above.{task_at}
use Rattle.apply_events.specs.Answer.{Applied}
use Rattle.apply_events.specs.Apply.{acted, applied}
use Rattle.apply_events.proofs.Frame.{count_stays, past_stays, row_stays}
use Rattle.apply_events.proofs.Happened.{Happened, refusal, acceptance, happened}
use Rattle.apply_events.proofs.Kept.{applied_sound}
use Rattle.apply_events.proofs.Places.{expired-length}
use Rattle.run_histories.specs.History.{run_state}
use Rattle.run_histories.proofs.Taken.{acts}

-- what an event keeps, refused or not
pub record Keeps (s q : State) : Type 0 where
  pub sound : StateSound q
  pub count : q.count ≡ s.count
  pub onward : s.clock ≤ q.clock
  pub places : length q.records ≡ length s.records
  pub tasks : (i : ℕ) → i < s.count → (record_at q i).task ≡ (record_at s i).task
  pub past : (i : ℕ) → s.count ≤ i → record_at q i ≡ record_at s i

module _ (s : State) (e : Event) (g : StateSound s) where
  onward : {a : Applied} → Happened s e a → s.clock ≤ a.state.clock
  onward (refusal n z v) = le_refl s.clock
  onward (acceptance h c o) = h.onward

  as_long : {a : Applied} → Happened s e a → length a.state.records ≡ length s.records
  as_long (refusal n z v) = refl
  as_long (acceptance h c o) = simp length-set (expired-length s e.time)

  pub event_keeps : Keeps s (applied s e).state
  event_keeps =
      record {
        sound = applied_sound s g e;
        count = count_stays s e;
        onward = onward (happened s e);
        places = as_long (happened s e);
        tasks = row_stays s e g;
        past = past_stays s e;
      }

-- what holds of every state that a run reaches
pub record Reached (t : Table) (s : State) : Type 0 where
  pub sound : StateSound s
  pub count : s.count ≡ t.count
  pub places : length s.records ≡ 16
  pub tasks : (i : ℕ) → i < t.count → (record_at s i).task ≡ task_at t i
  pub past : (i : ℕ) → t.count ≤ i → record_at s i ≡ get_or (replicate 16 no_record) i no_record

module _ (t : Table) (good : judged t ≡ Accepted) where
  pub fresh_reached : Reached t (fresh_state t)
  fresh_reached =
      record {
        sound = start_sound t good;
        count = refl;
        places = length_filled (λ (i : ℕ). fresh (task_at t i)) (replicate 16 no_record) no_record t.count;
        tasks = λ i h. rw (fresh_at t good i h);
        past = λ i h. filled_past (λ (j : ℕ). fresh (task_at t j)) (replicate 16 no_record) no_record t.count i h;
      }

  pub reached : (es : List Event) → Reached t (run_state (fresh_state t) es)
  unfolding run_state
  reached [] = fresh_reached
  reached (e ∷ es) =
      let r = reached es in
      let k = event_keeps (run_state (fresh_state t) es) e r.sound in
      record {
        sound = k.sound;
        count = k.count ∙ r.count;
        places = k.places ∙ r.places;
        tasks = λ i h. k.tasks i (rw r.count h) ∙ r.tasks i h;
        past = λ i h. k.past i (rw r.count h) ∙ r.past i h;
      }

  -- along a run no event is refused 15
  pub acted_on : (es : List Event) (e : Event) → applied (run_state (fresh_state t) es) e ≡ acted (run_state (fresh_state t) es) e
  acted_on es e = acts (run_state (fresh_state t) es) e (reached es).sound
