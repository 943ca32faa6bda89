-- Closing, expiring and opening keep a record sound where the rules say so: clause by clause, since no count passes the clock's limit.
use Prim.Native.Nat.{ℕ, ◌+◌, ◌-◌, ◌^◌, min, ◌≤◌, ◌<◌}
use mathlib.Core.Path.{◌≡◌, refl, sym, ap, ◌∙◌}
use mathlib.Core.Bool.{Bool, true, false, cond}
use native.Mathlib.Decide.{ℕ_discrete}
use native.Mathlib.Nat.{le_refl}
use native.Mathlib.Omega.{arith}
use borrow.Author.Tests.{ltb-false, eqb-false}
use lib.Count.{ones}
use lib.Dec.{eqb, ltb, leb}
use lib.Pow.{pow_pos}
use Rattle.laws.proofs.Tests.{true_not_false, impossible}
use Rattle.task_levels.specs.Level.{class_of, raised, lowest, level_holds}
use Rattle.task_levels.proofs.Needs.{need, class_need, need_lowest, level_holds_lem, level_told, raised_most, raised_class}
use Rattle.table_rules.specs.declared.Task.{Task}
use Rattle.table_rules.specs.Rules.{Times, Misses, task_fault}
use Rattle.task_thresholds.specs.Thresholds.{w_of, h_of, top_of}
use Rattle.task_thresholds.proofs.Paper.{h_some}
use Rattle.table_rules.proofs.Ruling.{fault_none}
use Rattle.task_records.specs.declared.Record.{Record}
use Rattle.task_records.specs.Closing.{set_back, closed}
use Rattle.task_steps.specs.Opening.{fresh, expired, opened}
use Rattle.task_marks.specs.Marks.{count_of, pushed}
use Rattle.task_records.specs.Window.{broken_by}
use Rattle.task_marks.proofs.Marks.{pushed-fits, count_rises}
use Rattle.task_records.proofs.Steps.{stays_below}
use Rattle.task_soundness.specs.Sound.{Sound}

-- the limit of the clock
abbrev pub end : ℕ
end = 1000000000000

module _ (task : Task) (ruled : task_fault task ≡ 0) where
  rules : Times task × Misses task
  rules = (fault_none task).0 ruled

  low : level_holds (lowest (h_of task.m task.k)) (h_of task.m task.k) (top_of task.m task.k) ≡ true
  low =
      let h = h_some task.m task.k rules.1.fewer in
      let n = need_lowest (h_of task.m task.k) h in
      let c : class_of (lowest (h_of task.m task.k)) ≡ 0 = class_need (lowest (h_of task.m task.k)) (omega arith) in
      level_holds_lem (lowest (h_of task.m task.k)) (h_of task.m task.k) (top_of task.m task.k) h (omega arith) (omega arith)

  pub fresh_sound : Sound (fresh task) 0
  fresh_sound =
      record {
        ruled = ruled;
        level = low;
        run = omega arith;
        required = λ z. refl;
        opens = λ o. impossible cc;
        past = le_refl 0;
        timely = λ o. impossible cc;
        unreleased = λ z. (refl, refl);
        spaced = omega arith;
        balance = refl;
        broken = omega arith;
        marks = pow_pos (min task.k (0 + 0));
      }

module _ (r : Record) (clock : ℕ) (s : Sound r clock) where
  -- a later clock changes nothing but the deadline's clause
  pub later_sound : (t : ℕ) → clock ≤ t → (r.live ≡ true → t ≤ r.last + r.task.d) → Sound r t
  later_sound t h d =
      record {
        ruled = s.ruled;
        level = s.level;
        run = s.run;
        required = s.required;
        opens = s.opens;
        past = omega (arith, s.past);
        timely = d;
        unreleased = s.unreleased;
        spaced = s.spaced;
        balance = s.balance;
        broken = s.broken;
        marks = s.marks;
      }

  module _ (o : r.live ≡ true) (l : clock ≤ end) where
    balance_open : r.released ≡ r.met + r.missed + 1
    balance_open = s.balance ∙ ap (λ (b : Bool). r.met + r.missed + cond b 1 0) o

    few : r.met + r.missed + 1 ≤ end + 1
    few = omega (arith, balance_open, s.spaced, s.past)

    rules_of : Times r.task × Misses r.task
    rules_of = rules r.task s.ruled

    told : (need r.level ≤ h_of r.task.m r.task.k) × (class_of r.level ≤ top_of r.task.m r.task.k)
    told =
        level_told r.level (h_of r.task.m r.task.k) (top_of r.task.m r.task.k)
        (h_some r.task.m r.task.k rules_of.1.fewer) s.level

    broken_fits : (x : ℕ) → broken_by r x ≤ r.met + r.missed + 1
    broken_fits x = go (eqb r.broken 0) (ltb r.task.m (ones x))
      where
        go : (a b : Bool) → cond a (cond b r.released 0) r.broken ≤ r.met + r.missed + 1
        go true true = omega (arith, balance_open)
        go true false = omega arith
        go false b = omega (arith, s.broken)

    marks_fit : (b : ℕ) → b ≤ 1 → pushed r.task.k r.marks b < 2 ^ min r.task.k (r.met + r.missed + 1)
    marks_fit b h = pushed-fits r.task.k r.marks b (r.met + r.missed) rules_of.1.window rules_of.1.widest h s.marks

    unreleased_open : r.released ≡ 0 → (false ≡ false) × (r.last ≡ 0)
    unreleased_open z = absurd (true_not_false (sym o ∙ (s.unreleased z).0))

    pub met_sound : Sound (closed r true) clock
    unfolding closed
    met_sound =
        let c : count_of r.met ≡ r.met + 1 = count_rises r.met (omega (arith, few)) in
        let e : count_of r.met + r.missed ≡ r.met + r.missed + 1 = omega (arith, c) in
        let h = h_some r.task.m r.task.k rules_of.1.fewer in
        record {
          ruled = s.ruled;
          level =
              level_holds_lem (raised r.level (top_of r.task.m r.task.k)) (h_of r.task.m r.task.k) (top_of r.task.m r.task.k) h
              (raised_most r.level (top_of r.task.m r.task.k) (h_of r.task.m r.task.k) h told.0)
              (raised_class r.level (top_of r.task.m r.task.k));
          run = omega arith;
          required = λ z. refl;
          opens = λ q. impossible cc;
          past = s.past;
          timely = λ q. impossible cc;
          unreleased = unreleased_open;
          spaced = s.spaced;
          balance = omega (arith, balance_open, e);
          broken = rw e (broken_fits (pushed r.task.k r.marks 0));
          marks = rw e (marks_fit 0 (omega arith));
        }

    run_after : (b : Bool) → set_back r ≡ b → cond b 0 (r.run + 1) ≤ w_of r.task.m r.task.k - 1
    run_after true e = omega arith
    run_after false e = omega (arith, stays_below r e)

    level_after : (b : Bool) → level_holds (cond b (lowest (h_of r.task.m r.task.k)) r.level) (h_of r.task.m r.task.k)
        (top_of r.task.m r.task.k) ≡ true
    level_after true = low r.task s.ruled
    level_after false = s.level

    -- a miss that leaves the level is above class 0
    class_above : set_back r ≡ false → class_of r.level ≡ 0 → ⊥
    class_above e z = go (eqb (class_of r.level) 0) refl e
      where
        go : (b : Bool) → eqb (class_of r.level) 0 ≡ b → cond b true (leb (w_of r.task.m r.task.k) (r.run + 1)) ≡ false → ⊥
        go true q f = true_not_false f
        go false q f = eqb-false (class_of r.level) 0 q z

    required_after : (b : Bool) → set_back r ≡ b → class_of (cond b (lowest (h_of r.task.m r.task.k)) r.level) ≡ 0 → cond b 0 (r.run + 1) ≡ 0
    required_after true e z = refl
    required_after false e z = absurd (class_above e z)

    pub missed_sound : Sound (closed r false) clock
    unfolding closed
    missed_sound =
        let c : count_of r.missed ≡ r.missed + 1 = count_rises r.missed (omega (arith, few)) in
        let e : r.met + count_of r.missed ≡ r.met + r.missed + 1 = omega (arith, c) in
        record {
          ruled = s.ruled;
          level = level_after (set_back r);
          run = run_after (set_back r) refl;
          required = required_after (set_back r) refl;
          opens = λ q. impossible cc;
          past = s.past;
          timely = λ q. impossible cc;
          unreleased = unreleased_open;
          spaced = s.spaced;
          balance = omega (arith, balance_open, e);
          broken = rw e (broken_fits (pushed r.task.k r.marks 1));
          marks = rw e (marks_fit 1 (omega arith));
        }

    pub closed_sound : (met : Bool) → Sound (closed r met) clock
    closed_sound true = met_sound
    closed_sound false = missed_sound

-- step 1 at a time that is not before the clock
pub expired_sound : (r : Record) (clock t : ℕ) → Sound r clock → clock ≤ t → clock ≤ end → Sound (expired r t) t
unfolding expired closed
expired_sound r clock t s h l = go r.live (ltb (r.last + r.task.d) t) refl refl
  where
    go : (a b : Bool) → r.live ≡ a → ltb (r.last + r.task.d) t ≡ b → Sound (cond (cond a b false) (closed r false) r) t
    go true true o q = later_sound (closed r false) clock (missed_sound r clock s o l) t h (λ z. impossible cc)
    go true false o q = later_sound r clock s t h (λ z. ltb-false (r.last + r.task.d) t q)
    go false b o q = later_sound r clock s t h (λ z. absurd (true_not_false (sym z ∙ o)))

-- a release that is spaced, of a task with nothing open
pub opened_sound : (r : Record) (t : ℕ) → Sound r t → t ≤ end → r.live ≡ false → ((r.released ≡ 0 → ⊥) → r.last + r.task.t ≤ t) → Sound (opened r t) t
unfolding opened
opened_sound r t s l o k =
    let b : r.released ≡ r.met + r.missed = s.balance ∙ ap (λ (v : Bool). r.met + r.missed + cond v 1 0) o ∙ omega arith in
    let c : count_of r.released ≡ r.released + 1 = count_rises r.released (omega (arith, s.spaced, s.past)) in
    record {
      ruled = s.ruled;
      level = s.level;
      run = s.run;
      required = s.required;
      opens = λ z. refl;
      past = le_refl t;
      timely = λ z. omega arith;
      unreleased = λ z. absurd (omega (arith, c));
      spaced = rw c (spaced_by (ℕ_discrete r.released 0));
      balance = omega (arith, c, b);
      broken = s.broken;
      marks = s.marks;
    }
  where
    spaced_by : Dec (r.released ≡ 0) → r.released + 1 ≤ t + 1
    spaced_by (no n) =
        omega (arith, k n, s.spaced, (rules r.task s.ruled).0.some, (rules r.task s.ruled).0.within, (rules r.task s.ruled).0.spaced)
    spaced_by (yes z) = omega arith
