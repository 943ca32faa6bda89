-- One task's record and its closed jobs keep what the guarantee says of them, step by step, as long as no job of the required class is found past its
-- deadline.
use Prim.Native.Nat.{ℕ, ◌+◌, ◌≤◌, ◌<◌}
use mathlib.Core.Path.{◌≡◌, refl, sym, ◌∙◌}
use mathlib.Core.Bool.{Bool, true, false, cond}
use mathlib.Core.List.{List, [], ◌∷◌}
use native.Mathlib.Decide.{ℕ_discrete}
use native.Mathlib.Nat.{le_refl}
use native.Mathlib.Omega.{arith}
use borrow.Author.Tests.{eq-eqb, ne_eqb, eqb-true}
use lib.Dec.{eqb}
use Rattle.laws.proofs.Tests.{true_not_false, both_hold}
use Rattle.task_levels.specs.Level.{class_of}
use Rattle.table_rules.specs.declared.Task.{Task}
use Rattle.table_rules.specs.Rules.{task_fault}
use Rattle.task_records.specs.declared.Record.{Record}
use Rattle.task_records.specs.Closing.{closed}
use Rattle.task_records.proofs.Steps.{closed_idle}
use Rattle.task_steps.specs.Opening.{fresh, opened}
use Rattle.task_soundness.specs.Sound.{Sound}
use Rattle.task_soundness.proofs.Kept.{end, fresh_sound, closed_sound, opened_sound, later_sound}
use Rattle.run_windows.proofs.Levels.{rung_of}
use Rattle.run_windows.proofs.Ledgers.{Ledger, ledger_fresh, ledger_opened, ledger_met, ledger_missed}
use Rattle.run_histories.specs.History.{Job, outcomes_of, Each}
use Rattle.guarantee.specs.Guarantee.{Good}
use Rattle.run_histories.proofs.Steps.{closed_same}

-- an open job of the required class
abbrev pub is_due : Record → Bool
is_due r = cond r.live (eqb r.class 0) false

pub due_intro : (r : Record) → r.live ≡ true → r.class ≡ 0 → is_due r ≡ true
due_intro r l e = rw (l, eq-eqb _ _ e)

pub due_live : (r : Record) → is_due r ≡ true → r.live ≡ true
due_live r d = (both_hold r.live (eqb r.class 0) d).0

pub due_class : (r : Record) → is_due r ≡ true → r.class ≡ 0
due_class r d = eqb-true _ _ (both_hold r.live (eqb r.class 0) d).1

-- an open job that is not due is above the required class
pub above_required : (r : Record) → r.live ≡ true → (is_due r ≡ true → ⊥) → 0 < r.class
above_required r l n = go (ℕ_discrete r.class 0)
  where
    go : Dec (r.class ≡ 0) → 0 < r.class
    go (yes z) = absurd (n (due_intro r l z))
    go (no z) = omega arith

-- what holds of a task's record and closed jobs at every moment
pub record Fine (p : Task) (bound clock : ℕ) (jobs : List Job) (r : Record) : Type 0 where
  pub task : r.task ≡ p
  pub sound : Sound r clock
  pub ledger : Ledger p (outcomes_of jobs) (rung_of r)
  pub good : Each (Good bound) jobs

pub fresh_fine : (p : Task) (bound : ℕ) → task_fault p ≡ 0 → Fine p bound 0 [] (fresh p)
fresh_fine p bound f = record { task = refl; sound = fresh_sound p f; ledger = ledger_fresh; good = tt }

module _ (p : Task) (bound clock : ℕ) (jobs : List Job) (r : Record) (f : Fine p bound clock jobs r) where
  pub begun : r.live ≡ true → r.released ≡ 0 → ⊥
  begun l z = true_not_false (sym l ∙ (f.sound.unreleased z).0)

  -- time passes, and no open job's deadline
  pub fine_later : (t : ℕ) → clock ≤ t → (r.live ≡ true → t ≤ r.last + r.task.d) → Fine p bound t jobs r
  fine_later t h d =
      record { task = f.task; sound = later_sound r clock f.sound t h d; ledger = f.ledger; good = f.good }

  module _ (l : r.live ≡ true) (c : clock ≤ end) (t : ℕ) (h : clock ≤ t) (j : Job) (same : j.class ≡ r.class) where
    closed_later : (met : Bool) → Sound (closed r met) t
    closed_later met =
        later_sound (closed r met) clock (closed_sound r clock f.sound l c met) t h
        (λ z. absurd (true_not_false (sym z ∙ closed_idle r met)))

    -- a job above the required class is closed as missed
    pub fine_missed : j.met ≡ false → 0 < r.class → Fine p bound t (j ∷ jobs) (closed r false)
    fine_missed m above =
        record {
          task = (closed_same r false).task ∙ f.task;
          sound = closed_later false;
          ledger = rw m (ledger_missed r f.ledger f.task (omega (arith, f.sound.opens l)));
          good = (λ z. absurd (omega arith), f.good);
        }

    -- a job is closed as met, within its bound if it is of the required class
    pub fine_met : j.met ≡ true → (r.class ≡ 0 → j.closing ≤ j.release + bound) → Fine p bound t (j ∷ jobs) (closed r true)
    fine_met m within =
        record {
          task = (closed_same r true).task ∙ f.task;
          sound = closed_later true;
          ledger = rw m (ledger_met r f.ledger f.task);
          good = (λ z. (m, within (sym same ∙ z)), f.good);
        }

-- a new job opens at the clock
pub fine_opened : (p : Task) (bound t : ℕ) (jobs : List Job) (r : Record) → Fine p bound t jobs r → t ≤ end → r.live ≡ false
    → ((r.released ≡ 0 → ⊥) → r.last + r.task.t ≤ t) → Fine p bound t jobs (opened r t)
unfolding opened
fine_opened p bound t jobs r f e l s =
    record {
      task = f.task;
      sound = opened_sound r t f.sound e l s;
      ledger = ledger_opened r f.ledger t;
      good = f.good;
    }

-- the earliest tick of the next job of the required class, as far as a task's record tells: no step moves it back, and such a job, released
-- at t, moves it to t + space or later
pub record Gates (p : Task) (bound space : ℕ) (gate : Record → ℕ) : Type 0 where
  pub missed : {c : ℕ} {jobs : List Job} (r : Record) → Fine p bound c jobs r → r.live ≡ true → 0 < r.class → gate r ≤ gate (closed r false)
  pub met : {c : ℕ} {jobs : List Job} (r : Record) → Fine p bound c jobs r → r.live ≡ true → gate r ≤ gate (closed r true)
  pub wait : {c : ℕ} {jobs : List Job} (r : Record) (t : ℕ) → Fine p bound c jobs r → r.live ≡ false → 0 < class_of r.level
      → ((r.released ≡ 0 → ⊥) → r.last + p.t ≤ t) → gate r ≤ gate (opened r t)
  pub due : {c : ℕ} {jobs : List Job} (r : Record) (t : ℕ) → Fine p bound c jobs r → r.live ≡ false → class_of r.level ≡ 0
      → ((r.released ≡ 0 → ⊥) → r.last + p.t ≤ t) → (gate r ≤ t) × (t + space ≤ gate (opened r t))

-- 01's: T after the last release, if there was one
abbrev pub since : ℕ → ℕ → ℕ
since released x = cond (eqb released 0) 0 x

since_most : (n x t : ℕ) → ((n ≡ 0 → ⊥) → x ≤ t) → since n x ≤ t
since_most n x t h = go (ℕ_discrete n 0)
  where
    go : Dec (n ≡ 0) → since n x ≤ t
    go (yes z) = rw (eq-eqb n 0 z) (omega arith)
    go (no z) = rw (ne_eqb n 0 z) (h z)

since_some : (n x : ℕ) → 0 < n → since n x ≡ x
since_some n x h = rw (ne_eqb n 0 (λ z. omega arith))

abbrev pub plain : Task → Record → ℕ
plain p r = since r.released (r.last + p.t)

pub plain_gates : (p : Task) (bound : ℕ) → Gates p bound p.t (plain p)
unfolding closed opened
plain_gates p bound =
    record {
      missed = λ r f l c. le_refl (plain p r);
      met = λ r f l. le_refl (plain p r);
      wait = λ r t f l c h. rw (since_some (opened r t).released (t + p.t) (omega arith)) (omega (arith, since_most r.released (r.last + p.t) t h));
      due = λ r t f l c h. (
        since_most r.released (r.last + p.t) t h,
        rw (since_some (opened r t).released (t + p.t) (omega arith)) (le_refl (t + p.t)),
      );
    }
