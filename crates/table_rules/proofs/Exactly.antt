-- Each refusal of a table is given exactly when the rules say: 1 by the count's test alone, every other number at the first position that has it. One theorem
-- over the test and the faults serves judging and, above, reading.
use Prim.Native.Nat.{ℕ, ◌<◌}
use mathlib.Core.Path.{◌≡◌, refl, sym, ap, ◌∙◌}
use mathlib.Core.Bool.{Bool, true, false}
use mathlib.Core.List.{[], ◌∷◌}
use mathlib.Core.Logic.{◌↔◌}
use native.Mathlib.Omega.{arith}
use borrow.Author.Tests.{le-leb, leb-true}
use lib.Dec.{leb}
use lib.ListN.{get_or}
use Rattle.laws.proofs.Tests.{impossible, Tells, tells, each_holds}
use Rattle.table_rules.specs.Answers.{Answer}
use Rattle.table_rules.specs.Answers.{Accepted, Refused}
use Rattle.table_rules.specs.declared.Table.{Table}
use Rattle.table_rules.specs.Rules.{Counted, count_holds, no_task}
use Rattle.table_rules.specs.Answers.{number_of}
use Rattle.table_rules.specs.Judging.{one_then, first_fault, fault_at, judged}
use Rattle.table_rules.proofs.Faults.{First, none_if, none_then, found_if, found_then}
use Rattle.table_rules.proofs.Ruling.{fault_among}

pub counted_tells : (n : ℕ) → Tells (count_holds n) (Counted n)
counted_tells n =
    tells
    (λ e. let h = each_holds (leb 1 n ∷ leb n 16 ∷ []) e in record { one = leb-true _ _ (h 0); most = leb-true _ _ (h 1) })
    (λ r. rw (le-leb _ _ r.one, le-leb _ _ r.most))

-- over any test b that tells P, and any faults of which none below n is 1
module _ (f : ℕ → ℕ) (n : ℕ) (P : Type 0) where
  pub accepted_by : (b : Bool) → Tells b P → (one_then b f n ≡ Accepted) ↔ (P × ((i : ℕ) → i < n → f i ≡ 0))
  accepted_by true t = (λ e. (t.holds refl, none_then f n e), λ r. none_if f n r.1)
  accepted_by false t =
      (λ e. impossible cc, λ r. absurd (t.fails refl r.0))

  pub one_by : (b : Bool) → Tells b P → ((i : ℕ) → i < n → f i ≡ 1 → ⊥) → (number_of (one_then b f n) ≡ 1) ↔ (P → ⊥)
  one_by true t q1 = (λ e. absurd (go (first_fault f n) refl e), λ k. absurd (k (t.holds refl)))
    where
      go : (a : Answer) → first_fault f n ≡ a → number_of a ≡ 1 → ⊥
      go Accepted q e = omega (arith, e)
      go (Refused x p) q e = let r = found_then f n x p q in q1 p r.below (r.fault ∙ e)
  one_by false t q1 = (λ e. t.fails refl, λ k. refl)

  pub at_by : (b : Bool) → Tells b P → (x p : ℕ) → (x ≡ 1 → ⊥) → (one_then b f n ≡ Refused x p) ↔ (P × First f n x p)
  at_by true t x p q1 = (λ e. (t.holds refl, found_then f n x p e), λ r. found_if f n x p r.1)
  at_by false t x p q1 = (λ e. absurd (q1 (ap number_of (sym e))), λ r. absurd (t.fails refl r.0))

-- judging a table: 1, then 3 and 4 task by task (`fault_times` and `fault_misses` say which)
module _ (t : Table) where
  none_one : (i : ℕ) → i < t.count → fault_at t i ≡ 1 → ⊥
  none_one i h =
      fault_among (get_or t.tasks i no_task) (λ (x : ℕ). x ≡ 1 → ⊥) (λ e. omega (arith, e)) (λ e. omega (arith, e)) (λ e. omega (arith, e))

  pub judged_accepted : (judged t ≡ Accepted) ↔ (Counted t.count × ((i : ℕ) → i < t.count → fault_at t i ≡ 0))
  unfolding judged
  judged_accepted = accepted_by (fault_at t) t.count (Counted t.count) (count_holds t.count) (counted_tells t.count)

  pub judged_one : (number_of (judged t) ≡ 1) ↔ (Counted t.count → ⊥)
  unfolding judged
  judged_one = one_by (fault_at t) t.count (Counted t.count) (count_holds t.count) (counted_tells t.count) none_one

  pub judged_at : (x p : ℕ) → (x ≡ 1 → ⊥) → (judged t ≡ Refused x p) ↔ (Counted t.count × First (fault_at t) t.count x p)
  unfolding judged
  judged_at = at_by (fault_at t) t.count (Counted t.count) (count_holds t.count) (counted_tells t.count)
