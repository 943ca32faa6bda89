-- One response more adds one to its own cell and to no other, so the cells' total grows by one: by what a row holds that is stored to at a place.
use Prim.Native.Nat.{ℕ, ◌+◌, ◌≤◌}
use mathlib.Core.Path.{◌≡◌, refl, sym, ◌∙◌}
use native.Mathlib.Decide.{ℕ_discrete}
use native.Mathlib.Omega.{arith}
use borrow.Author.Tests.{eq-eqb, ne_eqb}
use lib.Dec.{eqb}
use lib.ListN.{length-set}
use lib.Seq.{get_or-set_same, get_or-set_other}
use Rattle.laws.specs.Numbers.{one_if}
use Rattle.laws.specs.Sums.{total}
use Rattle.laws.proofs.Sums.{total_shift}
use Rattle.tally_rules.specs.declared.Tally.{Tally}
use Rattle.tally_rules.specs.Tally.{cell_count, cell_of, cell_at, taken}
use Rattle.tally_rules.specs.Responses.{Whole}
use Rattle.tally_rules.proofs.Cells.{cell_below}

module _ (t : Tally) (r : ℕ) where
  pub taken_d : (taken t r).d ≡ t.d
  unfolding taken
  taken_d = refl

  pub taken_met : (taken t r).met ≡ t.met + 1
  unfolding taken
  taken_met = refl

  pub taken-sum : (taken t r).sum ≡ t.sum + r
  unfolding taken
  taken-sum = refl

  pub taken_whole : Whole t → Whole (taken t r)
  unfolding taken
  taken_whole w = length-set t.cells (cell_of t.d r) (cell_at t (cell_of t.d r) + 1) ∙ w

  pub taken_else : (c : ℕ) → (c ≡ cell_of t.d r → ⊥) → cell_at (taken t r) c ≡ cell_at t c
  unfolding taken
  taken_else c n = get_or-set_other t.cells (cell_of t.d r) c (cell_at t (cell_of t.d r) + 1) 0 n

  module _ (w : Whole t) (h : r ≤ t.d) where
    pub taken_here : cell_at (taken t r) (cell_of t.d r) ≡ cell_at t (cell_of t.d r) + 1
    unfolding taken
    taken_here = get_or-set_same t.cells (cell_of t.d r) (cell_at t (cell_of t.d r) + 1) 0 (rw w (cell_below t.d r h))

    pub taken_cell : (c : ℕ) → cell_at (taken t r) c ≡ cell_at t c + one_if (eqb (cell_of t.d r) c)
    taken_cell c = go (ℕ_discrete c (cell_of t.d r))
      where
        go : Dec (c ≡ cell_of t.d r) → cell_at (taken t r) c ≡ cell_at t c + one_if (eqb (cell_of t.d r) c)
        go (yes e) = rw (e, eq-eqb (cell_of t.d r) (cell_of t.d r) refl) taken_here
        go (no n) = rw (ne_eqb (cell_of t.d r) c (λ z. n (sym z))) (omega (arith, taken_else c n))

    pub taken-total : total (cell_at (taken t r)) cell_count ≡ total (cell_at t) cell_count + 1
    taken-total =
        let k = cell_of t.d r in
        let b = cell_below t.d r h in
        let up = total_shift (cell_at t) (cell_at (taken t r)) cell_count k b (λ i p n. omega (arith, taken_else i n)) in
        let down = total_shift (cell_at (taken t r)) (cell_at t) cell_count k b (λ i p n. omega (arith, taken_else i n)) in
        omega (arith, up, down, taken_here)

  -- no cell falls
  pub taken_more : Whole t → r ≤ t.d → (c : ℕ) → cell_at t c ≤ cell_at (taken t r) c
  taken_more w h c = omega (arith, taken_cell w h c)
