-- An event's own task as rows: the numbers that refuse the event, and the step that it takes where none does. By the tests, in turn.
use Prim.Native.Nat.{ℕ, ◌≤◌}
use mathlib.Core.Path.{◌≡◌, refl}
use mathlib.Core.Bool.{Bool, true, false, cond}
use native.Mathlib.Omega.{arith}
use borrow.Author.Tests.{eqb-true, eqb-false, le-ltb}
use lib.Dec.{eqb}
use Rattle.laws.proofs.Tests.{by_test, by_both}
use Rattle.event_reading.specs.declared.Event.{Event}
use Rattle.event_reading.specs.Event.{a_tick, a_release, a_completion, last_kind}
use Rattle.task_records.specs.declared.Record.{Record}
use Rattle.task_records.specs.Closing.{closed}
use Rattle.task_records.proofs.Steps.{closed_idle}
use Rattle.task_steps.specs.Opening.{late, expired, opened}
use Rattle.task_steps.specs.Own.{too_soon, is_open, reopened, release_fault, completion_fault, own_fault, own_after}

module _ (r : Record) (e : Event) where
  -- ---- the rows

  -- what refuses the event
  pub data Fault : ℕ → Type 0 where
    too_soon_lem : e.kind ≡ a_release → too_soon r e.time ≡ true → Fault 11
    no_job : e.kind ≡ a_completion → is_open r e.job ≡ false → Fault 12

  -- what becomes of the record where nothing does
  pub data Step : Record → Type 0 where
    tick : e.kind ≡ a_tick → Step r
    release : e.kind ≡ a_release → release_fault r e ≡ 0 → Step (reopened r e.time)
    completion : e.kind ≡ a_completion → completion_fault r e ≡ 0 → Step (closed r true)

  -- one or the other
  pub data Own : ℕ → Record → Type 0 where
    refuses : {n : ℕ} {x : Record} → Fault n → Own n x
    steps : {x : Record} → Step x → Own 0 x

  -- ---- every event of a known kind has its row

  of_release : e.kind ≡ a_release → Own (release_fault r e) (reopened r e.time)
  of_release k = go (too_soon r e.time) refl
    where
      go : (b : Bool) → too_soon r e.time ≡ b → Own (cond b 11 0) (reopened r e.time)
      go true f = refuses (too_soon_lem k f)
      go false f = steps (release k (rw f))

  of_completion : e.kind ≡ a_completion → Own (completion_fault r e) (closed r true)
  of_completion k = go (is_open r e.job) refl
    where
      go : (b : Bool) → is_open r e.job ≡ b → Own (cond b 0 12) (closed r true)
      go true f = steps (completion k (rw f))
      go false f = refuses (no_job k f)

  pub own_is : e.kind ≤ last_kind → Own (own_fault r e) (own_after r e)
  unfolding own_fault own_after
  own_is k =
      by_both Own (eqb e.kind a_tick) _ _ _ _ (λ p. steps (tick (eqb-true _ _ p)))
      (λ p.
      by_both Own (eqb e.kind a_release) _ _ _ _ (λ q. of_release (eqb-true _ _ q))
      (λ q. of_completion (omega (arith, eqb-false e.kind a_tick p, eqb-false e.kind a_release q))))

  -- ---- and a row's number is the computed one

  pub fault_only : {n : ℕ} → Fault n → own_fault r e ≡ n
  unfolding own_fault
  fault_only (too_soon_lem k f) = rw (k, f)
  fault_only (no_job k f) = rw (k, f)

  pub step_only : {x : Record} → Step x → own_fault r e ≡ 0
  unfolding own_fault
  step_only (tick k) = rw k
  step_only (release k z) = rw k z
  step_only (completion k z) = rw k z

  -- ---- what the numbers tell, and what each kind makes of the record

  pub in_turn : release_fault r e ≡ 0 → too_soon r e.time ≡ false
  in_turn = go (too_soon r e.time)
    where
      go : (b : Bool) → ◌≡◌ {A = ℕ} (cond b 11 0) 0 → b ≡ false
      go true q = absurd (omega (arith, q))
      go false q = refl

  pub job_open : completion_fault r e ≡ 0 → is_open r e.job ≡ true
  job_open = go (is_open r e.job)
    where
      go : (b : Bool) → ◌≡◌ {A = ℕ} (cond b 0 12) 0 → b ≡ true
      go true q = refl
      go false q = absurd (omega (arith, q))

  pub after_tick : {x : Record} → Step x → e.kind ≡ a_tick → x ≡ r
  after_tick (tick k) z = refl
  after_tick (release k f) z = absurd (omega arith)
  after_tick (completion k f) z = absurd (omega arith)

  pub after_release : {x : Record} → Step x → e.kind ≡ a_release → x ≡ reopened r e.time
  after_release (tick k) z = absurd (omega arith)
  after_release (release k f) z = refl
  after_release (completion k f) z = absurd (omega arith)

  pub after_completion : {x : Record} → Step x → e.kind ≡ a_completion → x ≡ closed r true
  after_completion (tick k) z = absurd (omega arith)
  after_completion (release k f) z = absurd (omega arith)
  after_completion (completion k f) z = refl

-- ---- what every step keeps: the task

closed_task : (r : Record) (met : Bool) → (closed r met).task ≡ r.task
unfolding closed
closed_task r true = refl
closed_task r false = refl

pub expired_task : (r : Record) (t : ℕ) → (expired r t).task ≡ r.task
unfolding expired
expired_task r t = by_test (λ (x : Record). x.task ≡ r.task) (late r t) (closed r false) r (λ e. closed_task r false) (λ e. refl)

reopened_task : (r : Record) (t : ℕ) → (reopened r t).task ≡ r.task
unfolding opened
reopened_task r t = by_test (λ (x : Record). x.task ≡ r.task) r.live (closed r false) r (λ e. closed_task r false) (λ e. refl)

pub step_task : {r : Record} {e : Event} {x : Record} → Step r e x → x.task ≡ r.task
step_task (tick k) = refl
step_task {r} {e} (release k f) = reopened_task r e.time
step_task {r} {e} (completion k f) = closed_task r true

-- ---- and what it leaves: no late job, since it is closed or was released now

closed_prompt : (r : Record) (met : Bool) (t : ℕ) → late (closed r met) t ≡ false
closed_prompt r met t = rw (closed_idle r met)

pub expired_prompt : (r : Record) (t : ℕ) → late (expired r t) t ≡ false
unfolding expired
expired_prompt r t = by_test (λ (x : Record). late x t ≡ false) (late r t) _ _ (λ e. closed_prompt r false t) (λ e. e)

reopened_prompt : (r : Record) (t : ℕ) → late (reopened r t) t ≡ false
unfolding opened
reopened_prompt r t = le-ltb _ t (omega arith)

pub own_prompt : (r : Record) (e : Event) → late r e.time ≡ false → late (own_after r e) e.time ≡ false
unfolding own_after
own_prompt r e p =
    by_test Prompt (eqb e.kind a_tick) _ _ (λ q. p)
    (λ q. by_test Prompt (eqb e.kind a_release) _ _ (λ f. reopened_prompt r e.time) (λ f. closed_prompt r true e.time))
  where
    Prompt : Record → Type 0
    Prompt x = late x e.time ≡ false
