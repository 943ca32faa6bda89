-- What one event does to a task's record in a sound state: nothing where it is refused, else step 1, or its own release or completion. By what happened.
use Prim.Native.Nat.{ℕ, ◌<◌}
use mathlib.Core.Path.{◌≡◌, refl, sym, subst, ◌∙◌}
use mathlib.Core.Bool.{Bool, true, false, cond}
use native.Mathlib.Omega.{arith}
use Rattle.laws.proofs.Tests.{true_not_false}
use Rattle.event_reading.specs.declared.Event.{Event}
use Rattle.event_reading.specs.Event.{a_release, a_completion}
use Rattle.task_records.specs.declared.Record.{Record}
use Rattle.task_records.specs.Closing.{closed}
use Rattle.task_steps.specs.Opening.{expired}
use Rattle.task_steps.specs.Own.{reopened}
use Rattle.task_steps.proofs.OwnSteps.{Step, tick, release, completion, job_open}
use Rattle.state_rules.specs.declared.State.{State}
use Rattle.state_rules.specs.State.{record_at}
use Rattle.state_rules.specs.Sound.{StateSound}
use Rattle.state_rules.specs.Choice.{chosen}
use Rattle.apply_events.specs.Answer.{Run, Idle}
use Rattle.apply_events.specs.Answer.{Applied}
use Rattle.apply_events.specs.Apply.{answer_of, acted, applied}
use Rattle.apply_events.proofs.Happened.{Happened, refusal, acceptance, happened, sound_acts}
use Rattle.apply_events.proofs.Places.{places, stored_place}
use Rattle.run_histories.specs.History.{accepts, completes}
use Rattle.run_histories.specs.Counted.{releases}
use Rattle.run_histories.proofs.Steps.{is_open_lem}
use Rattle.run_histories.proofs.Closes.{other_kind, other_task, own_task}

-- an accepted event's answer is no refusal
pub accepts_answer : (s : State) → accepts (answer_of s) ≡ true
accepts_answer s = go (chosen s).found
  where
    go : (b : Bool) → accepts (cond b (Run (chosen s).at (record_at s (chosen s).at).class) Idle) ≡ true
    go true = refl
    go false = refl

module _ (s : State) (e : Event) where
  -- task i's record after step 1
  abbrev pub passed : ℕ → Record
  passed i = expired (record_at s i) e.time

  -- a sound state is never refused 15
  pub acts : StateSound s → applied s e ≡ acted s e
  acts g = sym (sound_acts s e g)

  -- a refused event alters nothing
  pub refused_stays : StateSound s → accepts (applied s e).answer ≡ false → (applied s e).state ≡ s
  refused_stays g = go (happened s e)
    where
      go : {a : Applied} → Happened s e a → accepts a.answer ≡ false → a.state ≡ s
      go (refusal n z v) r = refl
      go {a} (acceptance h c o) r = absurd (true_not_false (sym (accepts_answer a.state) ∙ r))

  -- an accepted one answers the choice that stands after it
  pub answers_choice : StateSound s → accepts (applied s e).answer ≡ true → (applied s e).answer ≡ answer_of (applied s e).state
  answers_choice g = go (happened s e)
    where
      go : {a : Applied} → Happened s e a → accepts a.answer ≡ true → a.answer ≡ answer_of a.state
      go (refusal n z v) r = absurd (true_not_false (sym r))
      go (acceptance h c o) r = refl

  -- task i's record after the event: as it was where the event is refused, else after step 1, or after its own release or completion
  pub data Becomes (i : ℕ) : Bool → Record → Type 0 where
    same : Becomes i false (record_at s i)
    passes : completes e i ≡ false → releases e i ≡ false → Becomes i true (passed i)
    reopens : completes e i ≡ false → releases e i ≡ true → Becomes i true (reopened (passed i) e.time)
    finishes : completes e i ≡ true → releases e i ≡ false → (passed i).live ≡ true → Becomes i true (closed (passed i) true)

  pub becomes : StateSound s → (i : ℕ) → i < s.count → Becomes i (accepts (applied s e).answer) (record_at (applied s e).state i)
  becomes g i h = go (happened s e)
    where
      own : {x : Record} → Step (passed i) e x → i ≡ e.task → Becomes i true x
      own (tick k) z = passes (other_kind a_completion e i (λ y. omega arith)) (other_kind a_release e i (λ y. omega arith))
      own (release k f) z = reopens (other_kind a_completion e i (λ y. omega arith)) (own_task a_release e i k z)
      own (completion k f) z =
          finishes (own_task a_completion e i k z) (other_kind a_release e i (λ y. omega arith)) (is_open_lem (passed i) e.job (job_open (passed i) e f)).0

      go : {a : Applied} → Happened s e a → Becomes i (accepts a.answer) (record_at a.state i)
      go (refusal n z v) = same
      go {a} (acceptance {x} t c o) =
          rw (accepts_answer a.state)
          (stored_place s e.time e.task x (Becomes i true) (places s g) c i h
          (λ z. own (subst (λ (j : ℕ). Step (passed j) e x) (sym z) o) z)
          (λ z. passes (other_task a_completion e i z) (other_task a_release e i z)))
