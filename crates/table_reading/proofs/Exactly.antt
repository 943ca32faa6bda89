-- Each refusal of table bytes is given exactly when the rules say: 1 by the length alone, then at the first record that has one.
use Prim.Native.Nat.{ℕ, ◌*◌, ◌/◌, ◌%◌, ◌≤◌, ◌<◌}
use mathlib.Core.Path.{◌≡◌}
use mathlib.Core.List.{List}
use mathlib.Core.Logic.{◌↔◌}
use native.Mathlib.Decide.{ℕ_discrete}
use native.Mathlib.Omega.{arith}
use borrow.Author.Tests.{eq-eqb, eqb-true}
use lib.Dec.{eqb}
use lib.ListN.{length, drop, length-drop}
use lib.Seq.{length-take-le}
use Rattle.laws.proofs.Tests.{Tells, tells, tells_true, both_hold}
use Rattle.table_rules.specs.Answers.{Accepted, Refused}
use Rattle.table_rules.specs.Rules.{count_holds}
use Rattle.table_rules.specs.Answers.{number_of}
use Rattle.table_rules.proofs.Exactly.{counted_tells, accepted_by, one_by, at_by}
use Rattle.table_rules.proofs.Faults.{First}
use Rattle.table_reading.proofs.Records.{record_among}
use Rattle.table_reading.specs.Table.{Whole, bytes_at, record_fault_at, bytes_hold, read_answer}

pub whole_tells : (s : List ℕ) → Tells (bytes_hold s) (Whole s)
whole_tells s =
    tells
    (λ e. let h = both_hold (eqb (length s % 16) 0) (count_holds (length s / 16)) e in
    record { records = eqb-true _ _ h.0; counted = (counted_tells (length s / 16)).holds h.1 })
    (λ r. rw (eq-eqb _ _ r.records) (tells_true (counted_tells (length s / 16)) r.counted))

-- reading table bytes: 1, then 2, 3 and 4 record by record (`record_mark` and `record_task` say which)
module _ (s : List ℕ) where
  pub length_at : (i : ℕ) → i < length s / 16 → length (bytes_at s i) ≡ 16
  length_at i h = length-take-le 16 (drop (16 * i) s) (rw length-drop (omega arith))

  no_one : (i : ℕ) → i < length s / 16 → record_fault_at s i ≡ 1 → ⊥
  no_one i h =
      record_among (bytes_at s i) (length_at i h) (λ (x : ℕ). x ≡ 1 → ⊥)
      (λ e. omega (arith, e)) (λ e. omega (arith, e)) (λ e. omega (arith, e)) (λ e. omega (arith, e))

  pub read_accepted : (read_answer s ≡ Accepted) ↔ (Whole s × ((i : ℕ) → i < length s / 16 → record_fault_at s i ≡ 0))
  unfolding read_answer
  read_accepted = accepted_by (record_fault_at s) (length s / 16) (Whole s) (bytes_hold s) (whole_tells s)

  pub read_one : (number_of (read_answer s) ≡ 1) ↔ (Whole s → ⊥)
  unfolding read_answer
  read_one = one_by (record_fault_at s) (length s / 16) (Whole s) (bytes_hold s) (whole_tells s) no_one

  pub read_at : (x p : ℕ) → (x ≡ 1 → ⊥) → (read_answer s ≡ Refused x p) ↔ (Whole s × First (record_fault_at s) (length s / 16) x p)
  unfolding read_answer
  read_at = at_by (record_fault_at s) (length s / 16) (Whole s) (bytes_hold s) (whole_tells s)

  -- no other number is given
  pub read_among : (x p : ℕ) → read_answer s ≡ Refused x p → (1 ≤ x) × (x ≤ 4)
  read_among x p e = go (ℕ_discrete x 1)
    where
      found : First (record_fault_at s) (length s / 16) x p → (1 ≤ x) × (x ≤ 4)
      found f =
          let most = record_among (bytes_at s p) (length_at p f.below) (λ (y : ℕ). y ≤ 4) (omega arith) (omega arith) (omega arith) (omega arith) in
          (not_zero x f.some, omega (arith, rw f.fault at most))
        where
          not_zero : (y : ℕ) → (y ≡ 0 → ⊥) → 1 ≤ y
          not_zero y n = omega arith

      go : Dec (x ≡ 1) → (1 ≤ x) × (x ≤ 4)
      go (yes q) = (omega arith, omega arith)
      go (no q) = found ((read_at x p q).0 e).1
