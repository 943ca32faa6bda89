-- A write answers the value's own refusal, then 14 exactly when the lent bytes are too few; a refused one leaves them all.
use Prim.Native.Nat.{ℕ, ◌*◌, ◌≤◌, ◌<◌}
use mathlib.Core.Path.{◌≡◌, refl, ◌∙◌}
use mathlib.Core.Bool.{Bool, true, false, cond}
use mathlib.Core.List.{List, ◌++◌}
use mathlib.Core.Logic.{◌↔◌}
use native.Mathlib.Omega.{arith}
use borrow.Author.Tests.{le-leb, lt-leb, leb-true, leb-false}
use lib.Dec.{leb}
use lib.ListN.{length, get_or, drop}
use Rattle.laws.proofs.Tests.{impossible}
use Rattle.table_rules.specs.Answers.{Answer}
use Rattle.table_rules.specs.Answers.{Accepted, Refused}
use Rattle.table_rules.specs.declared.Table.{Table}
use Rattle.table_rules.specs.Rules.{no_task}
use Rattle.table_rules.specs.Judging.{judged}
use Rattle.table_rules.proofs.Exactly.{judged_at}
use Rattle.table_rules.proofs.Ruling.{fault_among}
use Rattle.table_writing.specs.Writing.{records_of, if_room, write_answer, wrote_table}

-- the value's own refusal comes first
pub own_first : (t : Table) (n x p : ℕ) → judged t ≡ Refused x p → write_answer t n ≡ Refused x p
unfolding write_answer
own_first t n x p e = rw e

by_room : (b : Bool) → cond b Accepted (Refused 14 0) ≡ Accepted → b ≡ true
by_room true e = refl
by_room false e = impossible cc

by_want : (b : Bool) → cond b Accepted (Refused 14 0) ≡ Refused 14 0 → b ≡ false
by_want true e = impossible cc
by_want false e = refl

module _ (t : Table) (n : ℕ) where
  -- judging never answers 14
  not_14 : judged t ≡ Refused 14 0 → ⊥
  not_14 e =
      let f = ((judged_at t 14 0 (λ z. omega (arith, z))).0 e).1.fault in
      fault_among (get_or t.tasks 0 no_task) (λ (x : ℕ). x ≡ 14 → ⊥) (λ z. omega (arith, z)) (λ z. omega (arith, z)) (λ z. omega (arith, z)) f

  pub write_14 : (write_answer t n ≡ Refused 14 0) ↔ ((judged t ≡ Accepted) × (n < 16 * t.count))
  unfolding write_answer
  write_14 = (λ e. go (judged t) refl e, λ r. rw (r.0, lt-leb (16 * t.count) n r.1))
    where
      go : (a : Answer) → judged t ≡ a → if_room a (16 * t.count) n ≡ Refused 14 0 → (judged t ≡ Accepted) × (n < 16 * t.count)
      go Accepted q e = (q, leb-false (16 * t.count) n (by_want (leb (16 * t.count) n) e))
      go (Refused x p) q e = absurd (not_14 (q ∙ e))

  pub write_accepted : (write_answer t n ≡ Accepted) ↔ ((judged t ≡ Accepted) × (16 * t.count ≤ n))
  unfolding write_answer
  write_accepted = (λ e. go (judged t) refl e, λ r. rw (r.0, le-leb (16 * t.count) n r.1))
    where
      go : (a : Answer) → judged t ≡ a → if_room a (16 * t.count) n ≡ Accepted → (judged t ≡ Accepted) × (16 * t.count ≤ n)
      go Accepted q e = (q, leb-true (16 * t.count) n (by_room (leb (16 * t.count) n) e))
      go (Refused x p) q e = impossible cc

-- what the lent bytes hold afterwards
pub write_leaves : (t : Table) (s : List ℕ) → write_answer t (length s) ≡ Accepted → wrote_table t s ≡ records_of t.tasks t.count ++ drop (16 * t.count) s
unfolding wrote_table
write_leaves t s e = rw e

pub refused_leaves : (t : Table) (s : List ℕ) (x p : ℕ) → write_answer t (length s) ≡ Refused x p → wrote_table t s ≡ s
unfolding wrote_table
refused_leaves t s x p e = rw e
