-- The lent cells hold each task's bound, with the old cells past the count, and are all as they were where anything is refused: by the cases of the answer.
use Prim.Native.Nat.{ℕ, ◌≤◌, ◌<◌}
use mathlib.Core.Path.{◌≡◌, refl}
use mathlib.Core.List.{List}
use lib.ListN.{length, get_or}
use Rattle.laws.proofs.Stores.{length_filled, filled_below, filled_past}
use Rattle.table_rules.specs.declared.Table.{Table}
use Rattle.table_rules.specs.Answers.{Answer}
use Rattle.table_rules.specs.Answers.{Accepted, Refused}
use Rattle.bound_search.specs.Bound.{IsBound}
use Rattle.bound_all.specs.Asked.{bound_cell, left_by, all_answer, all_cells}
use Rattle.bound_search.proofs.Meets.{bound_is}
use Rattle.bound_all.proofs.Exactly.{all_accepted}

module _ (t : Table) (s : List ℕ) where
  pub cells_refused : (n p : ℕ) → all_answer t (length s) ≡ Refused n p → all_cells t s ≡ s
  cells_refused n p e = rw e

  pub cells_length : length (all_cells t s) ≡ length s
  cells_length = go (all_answer t (length s))
    where
      go : (a : Answer) → length (left_by a t s) ≡ length s
      go Accepted = length_filled (bound_cell t) s 0 t.count
      go (Refused n p) = refl

  pub cells_past : (i : ℕ) → t.count ≤ i → get_or (all_cells t s) i 0 ≡ get_or s i 0
  cells_past i h = go (all_answer t (length s))
    where
      go : (a : Answer) → get_or (left_by a t s) i 0 ≡ get_or s i 0
      go Accepted = filled_past (bound_cell t) s 0 t.count i h
      go (Refused n p) = refl

  -- every cell of a task holds that task's bound
  pub cells_each : all_answer t (length s) ≡ Accepted → (i : ℕ) → i < t.count → IsBound t i (get_or (all_cells t s) i 0)
  cells_each e i h =
      let a = (all_accepted t (length s)).0 e in
      let b = a.2 i h in
      let c : bound_cell t i ≡ b.0 = rw ((bound_is t i b.0).1 b.1) in
      rw (e, filled_below (bound_cell t) s 0 t.count i a.1 h, c) b.1
