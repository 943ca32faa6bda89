-- Each refusal of a record is given exactly when the rules say: 2 for its mark, then 3 and 4 for its task.
use Prim.Native.Nat.{ℕ}
use mathlib.Core.Path.{◌≡◌, refl, sym, ◌∙◌}
use mathlib.Core.Bool.{Bool, true, false, cond}
use mathlib.Core.List.{List, [], ◌∷◌}
use mathlib.Core.Logic.{◌↔◌}
use native.Mathlib.Omega.{arith}
use borrow.Author.Tests.{eq-eqb, eqb-true}
use lib.Dec.{eqb}
use lib.ListN.{length, get_or}
use Rattle.laws.proofs.Tests.{Tells, tells, tells_true, tells_false, each_holds}
use Rattle.table_rules.specs.Rules.{task_fault}
use Rattle.table_rules.proofs.Ruling.{fault_among}
use Rattle.table_reading.specs.Row.{Marked, mark_holds, task_of, record_fault}

pub marked_tells : (s : List ℕ) → Tells (mark_holds s) (Marked s)
marked_tells s =
    tells
    (λ e.
    let h = each_holds (eqb (get_or s 0 0) 0x54 ∷ eqb (get_or s 1 0) 0x4B ∷ []) e in
    record { first = eqb-true _ _ (h 0); second = eqb-true _ _ (h 1) })
    (λ r. rw (eq-eqb _ _ r.first, eq-eqb _ _ r.second))

-- one record of 16 bytes: 2, then the task's 3 and 4
module _ (s : List ℕ) (l : length s ≡ 16) where
  behind : record_fault s ≡ cond (mark_holds s) (task_fault (task_of s)) 2
  unfolding record_fault
  behind = rw (eq-eqb (length s) 16 l)

  pub record_among : (P : ℕ → Type 0) → P 0 → P 2 → P 3 → P 4 → P (record_fault s)
  record_among P p0 p2 p3 p4 = rw behind (go (mark_holds s))
    where
      go : (b : Bool) → P (cond b (task_fault (task_of s)) 2)
      go true = fault_among (task_of s) P p0 p3 p4
      go false = p2

  pub record_mark : (record_fault s ≡ 2) ↔ (Marked s → ⊥)
  record_mark = (λ e m. go (rw (behind, tells_true (marked_tells s) m) at e), λ n. behind ∙ rw (tells_false (marked_tells s) n))
    where
      go : task_fault (task_of s) ≡ 2 → ⊥
      go = fault_among (task_of s) (λ (x : ℕ). x ≡ 2 → ⊥) (λ e. omega (arith, e)) (λ e. omega (arith, e)) (λ e. omega (arith, e))

  -- with its mark, a record has its task's fault
  pub record_task : (x : ℕ) → (x ≡ 2 → ⊥) → (record_fault s ≡ x) ↔ (Marked s × (task_fault (task_of s) ≡ x))
  record_task x q2 = (λ e. go (mark_holds s) refl (sym behind ∙ e), λ r. behind ∙ rw (tells_true (marked_tells s) r.0) r.1)
    where
      go : (b : Bool) → mark_holds s ≡ b → cond b (task_fault (task_of s)) 2 ≡ x → Marked s × (task_fault (task_of s) ≡ x)
      go true q e = ((marked_tells s).holds q, e)
      go false q e = absurd (q2 (sym e))
