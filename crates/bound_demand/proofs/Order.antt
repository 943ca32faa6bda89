-- Of two tasks at different positions exactly one is above the other, no task is above itself, and above is transitive: the test tells the order of
-- `table_rules`.
use Prim.Native.Nat.{ℕ, ◌<◌}
use mathlib.Core.Path.{◌≡◌, refl, sym}
use mathlib.Core.Bool.{true, false}
use mathlib.Core.Logic.{◌⊎◌, inl, inr}
use native.Mathlib.Decide.{dec_lt, ℕ_discrete}
use native.Mathlib.Omega.{arith}
use borrow.Author.Tests.{lt-ltb, le-ltb, eq-eqb, ne_eqb, ltb-true}
use lib.Dec.{ltb}
use Rattle.laws.proofs.Tests.{Tells, tells, true_not_false}
use Rattle.table_rules.specs.declared.Table.{Table}
use Rattle.table_rules.proofs.Order.{higher_once, higher_some, higher_on}
use Rattle.bound_demand.specs.Above.{task_at, TaskAbove, is_above}

module _ (t : Table) where
  pub above_tells : (i k : ℕ) → Tells (is_above t i k) (TaskAbove t i k)
  above_tells i k = go (dec_lt (task_at t i).d (task_at t k).d) (ℕ_discrete (task_at t i).d (task_at t k).d)
    where
      go : Dec ((task_at t i).d < (task_at t k).d) → Dec ((task_at t i).d ≡ (task_at t k).d) → Tells (is_above t i k) (TaskAbove t i k)
      go (yes p) e = rw (lt-ltb _ _ p) (tells (λ _. inl p) (λ _. refl))
      go (no n) (yes e) =
          rw (le-ltb (task_at t i).d (task_at t k).d (omega arith), eq-eqb _ _ e)
          (tells (λ q. inr (e, ltb-true i k q)) (after n))
        where
          after : ((task_at t i).d < (task_at t k).d → ⊥) → TaskAbove t i k → ltb i k ≡ true
          after m (inl p) = absurd (m p)
          after m (inr q) = lt-ltb i k q.1
      go (no n) (no e) =
          rw (le-ltb (task_at t i).d (task_at t k).d (omega arith), ne_eqb _ _ e)
          (tells (λ q. absurd (true_not_false (sym q))) (neither n e))
        where
          neither : ((task_at t i).d < (task_at t k).d → ⊥) → ((task_at t i).d ≡ (task_at t k).d → ⊥) → TaskAbove t i k → false ≡ true
          neither m f (inl p) = absurd (m p)
          neither m f (inr q) = absurd (f q.0)

  pub not_itself : (i : ℕ) → TaskAbove t i i → ⊥
  not_itself i (inl p) = omega arith
  not_itself i (inr p) = omega arith

  pub not_both : (i k : ℕ) → TaskAbove t i k → TaskAbove t k i → ⊥
  not_both i k = higher_once (task_at t i) i (task_at t k) k

  pub one_above : (i k : ℕ) → (i ≡ k → ⊥) → TaskAbove t i k ⊎ TaskAbove t k i
  one_above i k = higher_some (task_at t i) i (task_at t k) k

  pub goes_on_lem : (i j k : ℕ) → TaskAbove t i j → TaskAbove t j k → TaskAbove t i k
  goes_on_lem i j k = higher_on (task_at t i) i (task_at t j) j (task_at t k) k
