-- What one record reads as, case by case: the first condition that holds decides.
use Prim.Native.Nat.{ℕ, zero, suc}
use mathlib.Core.Path.{◌≡◌, refl, ap, ◌∙◌}
use mathlib.Core.List.{List, [], ◌∷◌}
use mathlib.Core.Logic.{◌↔◌}
use native.Mathlib.Omega.{arith}
use borrow.Author.Tests.{eq-eqb, ne_eqb}
use lib.ListN.{length, get_or}
use Rattle.laws.proofs.Tests.{impossible}
use Rattle.refusals.specs.declared.Refusal.{Refusal}
use Rattle.refusals.specs.Numbers.{number_of}
use Rattle.refusals.proofs.Numbers.{number_some}
use Rattle.table_reading.specs.Answers.{Row}
use Rattle.table_rules.specs.declared.Task.{Task}
use Rattle.table_rules.specs.Rules.{task_fault}
use Rattle.table_reading.specs.Answers.{row_said}
use Rattle.table_reading.specs.Row.{Marked, task_of, record_fault, row_by, read_row}

-- a refusal's number is never the 0 of a task
pub row_by_number : (r : Refusal) (t : Task) → row_by (number_of r) t ≡ Row.Refused (number_of r)
row_by_number r t = go (number_of r) (number_some r)
  where
    go : (n : ℕ) → (n ≡ 0 → ⊥) → row_by n t ≡ Row.Refused n
    go zero k = absurd (k refl)
    go (suc n) k = refl

module _ (s : List ℕ) where
  pub not_16 : (length s ≡ 16 → ⊥) → record_fault s ≡ 1
  unfolding record_fault
  not_16 n = rw (ne_eqb _ _ n)

  pub first_wrong : length s ≡ 16 → (get_or s 0 0 ≡ 0x54 → ⊥) → record_fault s ≡ 2
  unfolding record_fault
  first_wrong l n = rw (eq-eqb _ _ l, ne_eqb _ _ n)

  pub second_wrong : length s ≡ 16 → get_or s 0 0 ≡ 0x54 → (get_or s 1 0 ≡ 0x4B → ⊥) → record_fault s ≡ 2
  unfolding record_fault
  second_wrong l m n = rw (eq-eqb _ _ l, eq-eqb _ _ m, ne_eqb _ _ n)

  pub marked : length s ≡ 16 → Marked s → record_fault s ≡ task_fault (task_of s)
  unfolding record_fault
  marked l m = rw (eq-eqb _ _ l, eq-eqb _ _ m.first, eq-eqb _ _ m.second)

  pub row_refused : (x : ℕ) → record_fault s ≡ x → (x ≡ 0 → ⊥) → read_row s ≡ Row.Refused x
  unfolding read_row
  row_refused x e n = rw e (go x n)
    where
      go : (y : ℕ) → (y ≡ 0 → ⊥) → row_by y (task_of s) ≡ Row.Refused y
      go zero k = absurd (k refl)
      go (suc y) k = refl

  pub row_task : record_fault s ≡ 0 → read_row s ≡ Row.Task (task_of s)
  unfolding read_row
  row_task e = rw e

  -- and back
  pub task_row : (t : Task) → read_row s ≡ Row.Task t → (record_fault s ≡ 0) × (t ≡ task_of s)
  unfolding read_row
  task_row t e = go (record_fault s) refl e
    where
      go : (y : ℕ) → record_fault s ≡ y → row_by y (task_of s) ≡ Row.Task t → (record_fault s ≡ 0) × (t ≡ task_of s)
      go zero q r = (q, cc)
      go (suc y) q r = impossible cc

  pub refused_row : (x : ℕ) → read_row s ≡ Row.Refused x → (record_fault s ≡ x) × (x ≡ 0 → ⊥)
  unfolding read_row
  refused_row x e = go (record_fault s) refl e
    where
      go : (y : ℕ) → record_fault s ≡ y → row_by y (task_of s) ≡ Row.Refused x → (record_fault s ≡ x) × (x ≡ 0 → ⊥)
      go zero q r = impossible cc
      go (suc y) q r = let w : suc y ≡ x = cc in (q ∙ w, λ z. omega arith)

  -- the number that a record is answered by is its fault
  pub row_number : (row_said (read_row s)).number ≡ record_fault s
  unfolding read_row
  row_number = go (record_fault s)
    where
      go : (y : ℕ) → (row_said (row_by y (task_of s))).number ≡ y
      go zero = refl
      go (suc y) = refl

  -- and a task is handed over exactly where there is no fault: the one that its bytes hold
  pub row_tasks : (t : Task) → (row_said (read_row s)).values ≡ t ∷ [] ↔ (record_fault s ≡ 0) × (t ≡ task_of s)
  row_tasks t = (λ e. task_row t (go (read_row s) e), λ h. rw (row_task h.0, h.1))
    where
      go : (r : Row) → (row_said r).values ≡ t ∷ [] → r ≡ Row.Task t
      go (Row.Task u) e = let w : u ≡ t = cc in ap Row.Task w
      go (Row.Refused n) e = impossible cc
