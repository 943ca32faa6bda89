-- Level and run follow the outcomes, since closing and the fold take the same step, and no step leaves the range.
use Prim.Native.Nat.{ℕ, zero, suc, ◌+◌, ◌-◌, ◌*◌, ◌≤◌, ◌<◌}
use mathlib.Core.Path.{◌≡◌, refl, sym, ◌∙◌}
use mathlib.Core.Bool.{Bool, true, false, cond}
use mathlib.Core.List.{List}
use native.Mathlib.Decide.{ℕ_discrete}
use native.Mathlib.Omega.{arith}
use borrow.Author.Tests.{leb-true, leb-false, eq-eqb, eqb-true, eqb-false}
use lib.Dec.{eqb, leb}
use Rattle.laws.proofs.Tests.{true_not_false}
use Rattle.task_levels.specs.Level.{class_of, lowest}
use Rattle.table_rules.specs.declared.Task.{Task}
use Rattle.table_rules.specs.Rules.{Misses}
use Rattle.task_thresholds.proofs.Paper.{h_covers}
use Rattle.task_records.specs.declared.Record.{Record}
use Rattle.task_records.specs.Closing.{set_back, closed}
use Rattle.task_steps.specs.Opening.{opened}
use Rattle.run_windows.specs.History.{History, start, release, close}
use Rattle.run_windows.proofs.Counts.{counts}
use Rattle.run_windows.proofs.Levels.{w_for, h_for, top_for, Rung, rung_of, low_rung, met_rung, missed_rung, longer, rung_after, InRange}
use Rattle.task_levels.proofs.Needs.{need, need_lowest, class_need, level_holds_lem, raised_most, raised_class}

-- what closing and opening do to level and run
pub rung_met : (r : Record) → rung_of (closed r true) ≡ met_rung r.task (rung_of r)
unfolding closed met_rung
rung_met r = refl

pub rung_missed : (r : Record) → rung_of (closed r false) ≡ missed_rung r.task (rung_of r)
unfolding closed missed_rung low_rung
rung_missed r = go (set_back r)
  where
    go : (b : Bool)
        → ◌≡◌ {A = Rung} (record { level = cond b (lowest (h_for r.task)) r.level; run = cond b 0 (r.run + 1) })
        (cond b (low_rung r.task) (longer (rung_of r)))
    go true = refl
    go false = refl

pub rung_opened : (r : Record) (t : ℕ) → rung_of (opened r t) ≡ rung_of r
unfolding opened
rung_opened r t = refl

module _ {task : Task} where
  pub rung_is : {os : List Bool} {r : Record} → History task os r → rung_of r ≡ rung_after task os
  unfolding low_rung
  rung_is start = refl
  rung_is (release {r = r} t idle room h) = rung_opened r t ∙ rung_is h
  rung_is (close {r = r} true live h) = rung_met r ∙ rw ((counts h).same, rung_is h)
  rung_is (close {r = r} false live h) = rung_missed r ∙ rw ((counts h).same, rung_is h)

  -- an open job's class, the one it opened with, is the larger of 0 and its task's level
  pub class-is : {os : List Bool} {r : Record} → History task os r → r.live ≡ true → r.class ≡ class_of r.level
  unfolding opened closed
  class-is start e = absurd (true_not_false (sym e))
  class-is (release t idle room h) e = refl
  class-is (close true live h) e = absurd (true_not_false (sym e))
  class-is (close false live h) e = absurd (true_not_false (sym e))

-- a missed job sets the level back, outside class 0 only with run + 1 >= w, or makes the run longer
pub data Missed (task : Task) (q : Rung) : Rung → Type 0 where
  back : (0 < class_of q.level → w_for task ≤ q.run + 1) → Missed task q (low_rung task)
  on : 0 < class_of q.level → q.run + 1 < w_for task → Missed task q (longer q)

module _ (task : Task) (q : Rung) where
  pub missed_so : Missed task q (missed_rung task q)
  unfolding missed_rung
  missed_so = go (eqb (class_of q.level) 0) refl (leb (w_for task) (q.run + 1)) refl
    where
      go : (a : Bool) → eqb (class_of q.level) 0 ≡ a → (b : Bool) → leb (w_for task) (q.run + 1) ≡ b
          → Missed task q (cond (cond a true b) (low_rung task) (longer q))
      go true d b e = back (λ c. absurd (omega (arith, eqb-true (class_of q.level) 0 d)))
      go false d true e = back (λ c. leb-true (w_for task) (q.run + 1) e)
      go false d false e = on (omega (arith, eqb-false (class_of q.level) 0 d)) (leb-false (w_for task) (q.run + 1) e)

-- the range in plain numbers
pub record Held (task : Task) (q : Rung) : Type 0 where
  pub need : need q.level ≤ h_for task
  pub class : class_of q.level ≤ top_for task
  pub run : q.run ≤ w_for task - 1
  pub required : class_of q.level ≡ 0 → q.run ≡ 0

module _ {task : Task} (rules : Misses task) where
  pub h_some : 1 ≤ h_for task
  h_some = go (ℕ_discrete task.m 0)
    where
      some : (h : ℕ) → task.k ≤ task.m * (h + 1) → 1 ≤ h
      some zero p = absurd (omega (arith, rules.fewer))
      some (suc h) p = omega arith

      go : Dec (task.m ≡ 0) → 1 ≤ h_for task
      go (yes z) = rw (eq-eqb task.m 0 z) (omega arith)
      go (no n) = some (h_for task) (h_covers task.m task.k (omega arith) rules.fewer)

  pub low_held : Held task (low_rung task)
  unfolding low_rung
  low_held =
      let e = need_lowest (h_for task) h_some in
      let c = class_need (lowest (h_for task)) (omega (arith, h_some)) in
      record { need = omega arith; class = omega arith; run = omega arith; required = λ z. refl }

  pub met_held : (q : Rung) → Held task q → Held task (met_rung task q)
  unfolding met_rung
  met_held q s =
      record {
        need = raised_most q.level (top_for task) (h_for task) h_some s.need;
        class = raised_class q.level (top_for task);
        run = omega arith;
        required = λ z. refl;
      }

  pub missed_held : (q : Rung) → Held task q → Held task (missed_rung task q)
  missed_held q s = go (missed_so task q)
    where
      go : {p : Rung} → Missed task q p → Held task p
      go (back f) = low_held
      go (on c l) = record { need = s.need; class = s.class; run = omega arith; required = λ z. absurd (omega arith) }

  pub held : {os : List Bool} {r : Record} → History task os r → Held task (rung_of r)
  unfolding low_rung
  held start = low_held
  held (release {r = r} t idle room h) = rw (rung_opened r t) (held h)
  held (close {r = r} true live h) = rw (rung_met r, (counts h).same) (met_held (rung_of r) (held h))
  held (close {r = r} false live h) = rw (rung_missed r, (counts h).same) (missed_held (rung_of r) (held h))

  pub range_of : {q : Rung} → Held task q → InRange task q
  range_of {q} s =
      record {
        level = level_holds_lem q.level (h_for task) (top_for task) h_some s.need s.class;
        run = s.run;
        required = s.required;
        hard = λ z. no_run z s.run;
      }
    where
      no_run : task.m ≡ 0 → q.run ≤ w_for task - 1 → q.run ≡ 0
      no_run z l = omega (arith, rw (eq-eqb task.m 0 z) at l)

  pub in_range : {os : List Bool} {r : Record} → History task os r → InRange task (rung_of r)
  in_range h = range_of (held h)
