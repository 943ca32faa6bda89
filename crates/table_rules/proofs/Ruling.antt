-- A task's fault is 3, 4 or none exactly when the rules say so: the tests tell the rules, and the first that fails gives the number.
use Prim.Native.Nat.{ℕ}
use mathlib.Core.Path.{◌≡◌, refl}
use mathlib.Core.Bool.{Bool, true, false, cond}
use mathlib.Core.List.{[], ◌∷◌}
use mathlib.Core.Logic.{◌↔◌}
use native.Mathlib.Decide.{ℕ_discrete}
use native.Mathlib.Omega.{arith}
use borrow.Author.Tests.{le-leb, lt-ltb, eq-eqb, ne_eqb, leb-true, ltb-true, eqb-true}
use lib.Dec.{leb, ltb, eqb}
use Rattle.laws.proofs.Tests.{Tells, tells, tells_true, tells_false, each_holds}
use Rattle.table_rules.specs.declared.Task.{Task}
use Rattle.table_rules.specs.Rules.{Times, Misses, times_hold, misses_hold, task_fault}

pub times_tell : (t : Task) → Tells (times_hold t) (Times t)
times_tell t =
    tells
    (λ e.
    let h = each_holds (leb 1 t.c ∷ leb t.c t.d ∷ leb t.d t.t ∷ leb t.t 1000000 ∷ []) e in
    record { some = leb-true _ _ (h 0); within = leb-true _ _ (h 1); spaced = leb-true _ _ (h 2); limit = leb-true _ _ (h 3) })
    (λ r. rw (le-leb _ _ r.some, le-leb _ _ r.within, le-leb _ _ r.spaced, le-leb _ _ r.limit))

-- m = 0 only with K = 1, as a test
hard_tells : (m k : ℕ) → Tells (cond (eqb m 0) (eqb k 1) true) (m ≡ 0 → k ≡ 1)
hard_tells m k = go (ℕ_discrete m 0)
  where
    go : Dec (m ≡ 0) → Tells (cond (eqb m 0) (eqb k 1) true) (m ≡ 0 → k ≡ 1)
    go (yes z) = rw (eq-eqb m 0 z) (tells (λ e z'. eqb-true k 1 e) (λ f. eq-eqb k 1 (f z)))
    go (no n) = rw (ne_eqb m 0 n) (tells (λ e z. absurd (n z)) (λ f. refl))

pub misses_tell : (t : Task) → Tells (misses_hold t) (Misses t)
misses_tell t =
    tells
    (λ e.
    let h = each_holds (leb 1 t.k ∷ leb t.k 64 ∷ ltb t.m t.k ∷ cond (eqb t.m 0) (eqb t.k 1) true ∷ []) e in
    record { window = leb-true _ _ (h 0); widest = leb-true _ _ (h 1); fewer = ltb-true _ _ (h 2); hard = (hard_tells t.m t.k).holds (h 3) })
    (λ r. rw (le-leb _ _ r.window, le-leb _ _ r.widest, lt-ltb _ _ r.fewer, tells_true (hard_tells t.m t.k) r.hard))

-- which number two tests give
abbrev by_tests : Bool → Bool → ℕ
by_tests a b = cond a (cond b 0 4) 3

both : (a b : Bool) → by_tests a b ≡ 0 → (a ≡ true) × (b ≡ true)
both true true e = (refl, refl)
both true false e = absurd (omega (arith, e))
both false b e = absurd (omega (arith, e))

first : (a b : Bool) → by_tests a b ≡ 3 → a ≡ false
first true true e = absurd (omega (arith, e))
first true false e = absurd (omega (arith, e))
first false b e = refl

second : (a b : Bool) → by_tests a b ≡ 4 → (a ≡ true) × (b ≡ false)
second true true e = absurd (omega (arith, e))
second true false e = (refl, refl)
second false b e = absurd (omega (arith, e))

module _ (t : Task) where
  pub fault_none : (task_fault t ≡ 0) ↔ (Times t × Misses t)
  unfolding task_fault
  fault_none = (
    λ e. ((times_tell t).holds (both (times_hold t) (misses_hold t) e).0, (misses_tell t).holds (both (times_hold t) (misses_hold t) e).1),
    λ r. rw (tells_true (times_tell t) r.0, tells_true (misses_tell t) r.1),
  )

  pub fault_times : (task_fault t ≡ 3) ↔ (Times t → ⊥)
  unfolding task_fault
  fault_times =
      (λ e. (times_tell t).fails (first (times_hold t) (misses_hold t) e), λ n. rw (tells_false (times_tell t) n))

  pub fault_misses : (task_fault t ≡ 4) ↔ (Times t × (Misses t → ⊥))
  unfolding task_fault
  fault_misses = (
    λ e. ((times_tell t).holds (second (times_hold t) (misses_hold t) e).0, (misses_tell t).fails (second (times_hold t) (misses_hold t) e).1),
    λ r. rw (tells_true (times_tell t) r.0, tells_false (misses_tell t) r.1),
  )

  -- no other number is given
  pub fault_among : (P : ℕ → Type 0) → P 0 → P 3 → P 4 → P (task_fault t)
  unfolding task_fault
  fault_among P p0 p3 p4 = go (times_hold t) (misses_hold t)
    where
      go : (a b : Bool) → P (by_tests a b)
      go true true = p0
      go true false = p4
      go false b = p3
