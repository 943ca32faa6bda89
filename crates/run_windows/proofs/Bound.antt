-- Any K closed jobs in a row hold at most m misses if no job of the required class was missed. With fewer misses than hits, h jobs are met after
-- each miss; otherwise at most w jobs are missed in a row.
use Prim.Native.Nat.{ℕ, zero, suc, ◌+◌, ◌-◌, ◌*◌, ◌≤◌, ◌<◌}
use mathlib.Core.Path.{◌≡◌, refl, ◌∙◌}
use mathlib.Core.Bool.{Bool}
use mathlib.Core.List.{List}
use native.Mathlib.Nat.{le_refl, lt_of_mul-lt-mul_left, lt_of_mul-lt-mul_right}
use native.Mathlib.Decide.{dec_lt, ℕ_discrete}
use native.Mathlib.Omega.{arith}
use borrow.Author.Tests.{eq-eqb}
use lib.IntN.{ℤ, pos, negsuc}
use lib.ListN.{length, take, drop, length-take}
use Rattle.task_levels.specs.Level.{class_of, lowest}
use Rattle.table_rules.specs.declared.Task.{Task}
use Rattle.table_rules.specs.Rules.{Misses}
use Rattle.task_thresholds.proofs.Paper.{w_one, h_covers, w_within, w_some}
use Rattle.task_records.specs.declared.Record.{Record}
use Rattle.run_windows.specs.Outcomes.{mets, last_misses}
use Rattle.run_windows.specs.Broken.{first_over}
use Rattle.run_windows.specs.History.{History}
use Rattle.run_windows.specs.Bound.{Within, Kept}
use Rattle.run_windows.proofs.Counts.{together}
use Rattle.run_windows.proofs.Marks.{window_is}
use Rattle.run_windows.proofs.Broken.{broken_is, never_broken}
use Rattle.task_levels.proofs.Needs.{need, need_lowest, need_class, raised_least}
use Rattle.run_windows.proofs.Levels.{w_for, h_for, top_for, Rung, low_rung, met_rung, missed_rung}
use Rattle.run_windows.proofs.Rungs.{Missed, back, on, missed_so, Held, h_some, low_held, met_held, missed_held}
use Rattle.run_windows.proofs.Ledgers.{RequiredMet, Ledger, blank, then_met, then_missed, ledger_of, earlier}

-- the misses in a row so far, and w where the next job has to be met
abbrev owed : ℕ → ℕ → ℤ → ℕ
owed w n (pos zero) = w
owed w n (pos (suc _)) = n
owed w n (negsuc _) = w

owed_class : (w n : ℕ) (z : ℤ) → 0 < class_of z → owed w n z ≡ n
owed_class w n (pos zero) p = absurd (omega arith)
owed_class w n (pos (suc x)) p = refl
owed_class w n (negsuc x) p = absurd (omega arith)

owed_need : (w n : ℕ) (z : ℤ) → 0 < need z → owed w n z ≡ w
owed_need w n (pos zero) p = refl
owed_need w n (pos (suc x)) p = absurd (omega arith)
owed_need w n (negsuc x) p = refl

owed_most : (w n : ℕ) (z : ℤ) → n ≤ w → owed w n z ≤ w
owed_most w n (pos zero) p = le_refl w
owed_most w n (pos (suc x)) p = p
owed_most w n (negsuc x) p = le_refl w

module _ {task : Task} (rules : Misses task) where
  pub ledger_held : {os : List Bool} {q : Rung} → Ledger task os q → Held task q
  ledger_held blank = low_held rules
  ledger_held (then_met {q = q} l) = met_held rules q (ledger_held l)
  ledger_held (then_missed {q = q} c l) = missed_held rules q (ledger_held l)

  -- w = 1: every miss sets back
  one_missed : w_for task ≤ 1 → (q : Rung) → missed_rung task q ≡ low_rung task
  one_missed one q = go (missed_so task q)
    where
      go : {p : Rung} → Missed task q p → p ≡ low_rung task
      go (back f) = refl
      go (on c l) = absurd (omega arith)

  -- h jobs are met after each miss: with what the level still lacks, the jobs are h + 1 for each miss, or more
  sparse : w_for task ≤ 1 → (n : ℕ) {os : List Bool} {q : Rung} → Ledger task os q
      → last_misses n os * suc (h_for task) ≤ length (take n os) + need q.level
  unfolding low_rung met_rung
  sparse one zero l = omega arith
  sparse one (suc n) blank = omega arith
  sparse one (suc n) (then_met {q = q} l) = omega (arith, sparse one n l, raised_least q.level (top_for task))
  sparse one (suc n) (then_missed {q = q} c l) =
      rw (one_missed one q)
      (omega (arith, sparse one n l, need_class q.level c, need_lowest (h_for task) (h_some rules)))

  -- a miss adds one to what is owed
  owed_next : (q : Rung) → Held task q → 1 ≤ w_for task → 0 < class_of q.level
      → owed (w_for task) (missed_rung task q).run (missed_rung task q).level ≡ suc q.run
  unfolding low_rung
  owed_next q s some c = go (missed_so task q)
    where
      go : {p : Rung} → Missed task q p → owed (w_for task) p.run p.level ≡ suc q.run
      go (back f) =
          let h = h_for task in
          owed_need (w_for task) 0 (lowest h) (omega (arith, need_lowest h (h_some rules), h_some rules))
          ∙ omega (arith, f c, s.run)
      go (on d l) = owed_class (w_for task) (q.run + 1) q.level c ∙ omega arith

  -- at most w jobs are missed in a row: with what is owed, the jobs are w + 1 for each met one, or fewer
  dense : 1 ≤ w_for task → (n : ℕ) {os : List Bool} {q : Rung} → Ledger task os q
      → length (take n os) ≤ mets (take n os) * suc (w_for task) + owed (w_for task) q.run q.level
  unfolding low_rung met_rung
  dense some zero l = omega arith
  dense some (suc n) blank = omega arith
  dense some (suc n) (then_met {q = q} l) =
      omega (arith, dense some n l, owed_most (w_for task) q.run q.level (omega (arith, (ledger_held l).run)))
  dense some (suc n) (then_missed {q = q} c l) =
      omega (arith, dense some n l, owed_class (w_for task) q.run q.level c, owed_next q (ledger_held l) some c)

  sparse_most : 1 ≤ task.m → 2 * task.m < task.k → (n : ℕ) {os : List Bool} {q : Rung} → Ledger task os q → n ≤ task.k → last_misses n os ≤ task.m
  sparse_most s f n {os = os} l b =
      let h = h_for task in
      let a = sparse (omega (arith, w_one task.m task.k s f)) n l in
      let c : last_misses n os * suc h < suc task.m * suc h
      = omega (arith, h_covers task.m task.k s rules.fewer, (ledger_held l).need, length-take n os) in
      omega (arith, lt_of_mul-lt-mul_right (suc h) c)

  dense_most : 1 ≤ task.m → task.k ≤ 2 * task.m → (n : ℕ) {os : List Bool} {q : Rung} → Ledger task os q → n ≤ task.k → last_misses n os ≤ task.m
  dense_most s f n {os = os} {q = q} l b = go (dec_lt task.m (last_misses n os))
    where
      go : Dec (task.m < last_misses n os) → last_misses n os ≤ task.m
      go (yes t) =
          let w = w_for task in
          let a = dense (w_some task.m task.k s) n l in
          let o = owed_most w q.run q.level (omega (arith, (ledger_held l).run)) in
          let e = together (take n os) in
          let c : w * (task.k - task.m) < w * suc (mets (take n os)) = omega (arith, w_within task.m task.k s rules.fewer f) in
          omega (arith, lt_of_mul-lt-mul_left w c, length-take n os)
      go (no t) = omega arith

  -- a hard task is in class 0 for ever
  hard_most : task.m ≡ 0 → (n : ℕ) {os : List Bool} {q : Rung} → Ledger task os q → last_misses n os ≡ 0
  hard_most z zero l = refl
  hard_most z (suc n) blank = refl
  hard_most z (suc n) (then_met l) = hard_most z n l
  hard_most z (suc n) (then_missed c l) = absurd (omega (arith, rw (eq-eqb task.m 0 z) at (ledger_held l).class))

  pub window_bound : {os : List Bool} {q : Rung} → Ledger task os q → Within task os
  window_bound {os = os} l p n b = go (ℕ_discrete task.m 0) (dec_lt (2 * task.m) task.k)
    where
      go : Dec (task.m ≡ 0) → Dec (2 * task.m < task.k) → last_misses n (drop p os) ≤ task.m
      go (yes z) d = omega (arith, hard_most z n (earlier p l).1)
      go (no z) (yes d) = sparse_most (omega arith) d n (earlier p l).1 b
      go (no z) (no d) = dense_most (omega arith) (omega arith) n (earlier p l).1 b

  -- then no job's closing leaves more than m misses in the window
  pub never_over : {os : List Bool} {q : Rung} → Ledger task os q → first_over task.m task.k os ≡ 0
  never_over {os = os} l =
      (never_broken task.m task.k os).1 (λ n h. window_bound l (length os - n) task.k (le_refl task.k))

  pub ledger_kept : {os : List Bool} {r : Record} {q : Rung} → History task os r → Ledger task os q → Kept task os r
  ledger_kept h l =
      record {
        within = window_bound l;
        window = rw (window_is rules h) (window_bound l 0 task.k (le_refl task.k));
        broken = broken_is rules h ∙ never_over l;
      }

  -- of a task that obeys the rules and missed no job of the required class
  pub window_kept : {os : List Bool} {r : Record} → History task os r → RequiredMet task os → Kept task os r
  window_kept {os = os} h f = ledger_kept h (ledger_of os f)
