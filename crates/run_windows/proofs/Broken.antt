-- `broken` is the first job whose closing left more than m misses in the window: the newest job is asked only if no older one was.
use Prim.Native.Nat.{ℕ, suc, ◌-◌, ◌≤◌, ◌<◌}
use mathlib.Core.Path.{◌≡◌, refl}
use mathlib.Core.Logic.{◌↔◌, ◌⊎◌, inl, inr, ◌≢◌}
use mathlib.Core.Bool.{Bool, true, false, cond}
use mathlib.Core.List.{List, [], ◌∷◌}
use native.Mathlib.Decide.{dec_lt}
use native.Mathlib.Numerals.{add-one}
use native.Mathlib.Omega.{arith}
use borrow.Author.Tests.{ltb-true, ltb-false, ne_eqb}
use lib.Dec.{eqb, ltb}
use lib.ListN.{length, take}
use lib.Seq.{take-nil, drop-nil}
use Rattle.table_rules.specs.declared.Task.{Task}
use Rattle.table_rules.specs.Rules.{Misses}
use Rattle.task_records.specs.declared.Record.{Record}
use Rattle.task_marks.specs.Marks.{pushed}
use Rattle.task_records.specs.Window.{broken_by}
use Rattle.task_records.specs.Closing.{closed}
use Rattle.task_steps.specs.Opening.{opened}
use Rattle.run_windows.specs.Outcomes.{last_misses}
use Rattle.run_windows.specs.Broken.{first_over, first_jobs, Unbroken, BrokenAt}
use Rattle.run_windows.specs.History.{History, start, release, close}
use Rattle.run_windows.proofs.Counts.{counts}
use Rattle.run_windows.proofs.Words.{mark_of}
use Rattle.run_windows.proofs.Marks.{count_word, push_marks, marks_are}

module _ {task : Task} (rules : Misses task) where
  broken_next : {os : List Bool} {r : Record} (o : Bool) → r.live ≡ true → History task os r → r.broken ≡ first_over task.m task.k os
      → broken_by r (pushed r.task.k r.marks (mark_of o)) ≡ first_over task.m task.k (o ∷ os)
  unfolding first_over
  broken_next {os = os} {r = r} o live h e =
      let c = counts h in
      let n : r.released ≡ suc (length os) = rw (live, add-one) at c.released in
      rw (push_marks rules r o os c.same (marks_are rules h), count_word (take task.k (o ∷ os)), e, n, c.same)

  pub broken_is : {os : List Bool} {r : Record} → History task os r → r.broken ≡ first_over task.m task.k os
  unfolding opened closed first_over
  broken_is start = refl
  broken_is (release t idle room h) = broken_is h
  broken_is (close true live h) = broken_next true live h (broken_is h)
  broken_is (close false live h) = broken_next false live h (broken_is h)

-- jobs 1 to n are the same once one more has closed, and all of them are the outcomes
older_jobs : (n : ℕ) (o : Bool) (os : List Bool) → n ≤ length os → first_jobs n (o ∷ os) ≡ first_jobs n os
older_jobs n o os h = let e : suc (length os) - n ≡ suc (length os - n) = omega arith in rw e

all_jobs : (os : List Bool) → first_jobs (length os) os ≡ os
all_jobs os = let e : length os - length os ≡ 0 = omega arith in rw e

module _ (m k : ℕ) where
  abbrev Judged : List Bool → ℕ → Type 0
  Judged os n = ((n ≡ 0) × Unbroken m k os) ⊎ BrokenAt m k os n

  unbroken_next : (o : Bool) (os : List Bool) → Unbroken m k os → last_misses k (o ∷ os) ≤ m → Unbroken m k (o ∷ os)
  unbroken_next o os u l n h = go (dec_lt (length os) n)
    where
      go : Dec (length os < n) → last_misses k (first_jobs n (o ∷ os)) ≤ m
      go (yes p) = let e : n ≡ suc (length os) = omega arith in rw (e, all_jobs (o ∷ os)) l
      go (no p) = let q : n ≤ length os = omega arith in rw (older_jobs n o os q) (u n q)

  broken_now : (o : Bool) (os : List Bool) → Unbroken m k os → m < last_misses k (o ∷ os) → BrokenAt m k (o ∷ os) (length (o ∷ os))
  broken_now o os u l =
      record {
        some = omega arith;
        among = omega arith;
        over = rw (all_jobs (o ∷ os)) l;
        first = λ j h. let q : j ≤ length os = omega arith in rw (older_jobs j o os q) (u j q);
      }

  broken_before : (o : Bool) (os : List Bool) (n : ℕ) → BrokenAt m k os n → BrokenAt m k (o ∷ os) n
  broken_before o os n b =
      record {
        some = b.some;
        among = omega arith;
        over = rw (older_jobs n o os b.among) b.over;
        first = λ j h. let q : j ≤ length os = omega (arith, b.among) in rw (older_jobs j o os q) (b.first j h);
      }

  judged : (os : List Bool) → Judged os (first_over m k os)
  unfolding first_over
  judged [] = inl (refl, λ n h. rw (drop-nil (0 - n), take-nil k) (omega arith))
  judged (o ∷ os) = next (first_over m k os) (judged os)
    where
      now : (b : Bool) → ltb m (last_misses k (o ∷ os)) ≡ b → Unbroken m k os → Judged (o ∷ os) (cond b (length (o ∷ os)) 0)
      now true e u = inr (broken_now o os u (ltb-true m (last_misses k (o ∷ os)) e))
      now false e u = inl (refl, unbroken_next o os u (ltb-false m (last_misses k (o ∷ os)) e))

      next : (n : ℕ) → Judged os n → Judged (o ∷ os) (cond (eqb n 0) (cond (ltb m (last_misses k (o ∷ os))) (length (o ∷ os)) 0) n)
      next n (inl u) = rw u.0 (now (ltb m (last_misses k (o ∷ os))) refl u.1)
      next n (inr b) = rw (ne_eqb n 0 (λ z. omega (arith, b.some))) (inr (broken_before o os n b))

  -- 0 means never
  pub never_broken : (os : List Bool) → first_over m k os ≡ 0 ↔ Unbroken m k os
  never_broken os = (λ e. there e (judged os), λ u. back u (judged os))
    where
      there : first_over m k os ≡ 0 → Judged os (first_over m k os) → Unbroken m k os
      there e (inl u) = u.1
      there e (inr b) = absurd (omega (arith, b.some))

      back : Unbroken m k os → Judged os (first_over m k os) → first_over m k os ≡ 0
      back u (inl v) = v.0
      back u (inr b) = absurd (omega (arith, u (first_over m k os) b.among, b.over))

  -- any other number is the first such job's
  pub first_broken : (os : List Bool) (n : ℕ) → first_over m k os ≡ suc n ↔ BrokenAt m k os (suc n)
  first_broken os n = (λ e. there e (judged os), λ b. back b (judged os))
    where
      there : first_over m k os ≡ suc n → Judged os (first_over m k os) → BrokenAt m k os (suc n)
      there e (inl u) = absurd (omega (arith, u.0))
      there e (inr b) = rw e at b

      back : BrokenAt m k os (suc n) → Judged os (first_over m k os) → first_over m k os ≡ suc n
      back b (inl u) = absurd (omega (arith, u.1 (suc n) b.among, b.over))
      back b (inr c) = same (dec_lt (first_over m k os) (suc n)) (dec_lt (suc n) (first_over m k os))
        where
          same : Dec (first_over m k os < suc n) → Dec (suc n < first_over m k os) → first_over m k os ≡ suc n
          same (yes p) q = absurd (omega (arith, b.first (first_over m k os) p, c.over))
          same (no p) (yes q) = absurd (omega (arith, c.first (suc n) q, b.over))
          same (no p) (no q) = omega arith

  -- it does not go back to 0, nor to a later job
  pub stays_broken : (o : Bool) (os : List Bool) → first_over m k os ≢ 0 → first_over m k (o ∷ os) ≡ first_over m k os
  unfolding first_over
  stays_broken o os n = rw (ne_eqb (first_over m k os) 0 n)
