-- What each cell of a joined tally holds, and when two tallies are one: cell by cell, over the 128 places.
use Prim.Native.Nat.{ℕ, zero, suc, ◌+◌, ◌<◌}
use mathlib.Core.Path.{◌≡◌, refl, sym, ◌∙◌}
use mathlib.Core.List.{List}
use native.Mathlib.Nat.{le_refl}
use native.Mathlib.Decide.{ℕ_discrete}
use native.Mathlib.Omega.{arith}
use borrow.Author.Tests.{eq-eqb, ne_eqb}
use lib.Dec.{eqb}
use lib.ListN.{get_or, set}
use lib.Seq.{get_or-set_same, get_or-set_other, ext_get_or}
use Rattle.std.specs.Prelude.{Option}
use Rattle.laws.specs.Numbers.{one_if}
use Rattle.laws.specs.Stores.{filled}
use Rattle.laws.specs.Sums.{total}
use Rattle.laws.proofs.Stores.{length_filled, filled_below}
use Rattle.laws.proofs.Sums.{total_same}
use Rattle.tally_rules.specs.declared.Span.{Span}
use Rattle.tally_rules.specs.declared.Tally.{Tally}
use Rattle.tally_rules.specs.Tally.{cell_count, cell_of, cell_at, taken}
use Rattle.tally_rules.specs.Responses.{Whole}
use Rattle.tally_sums.specs.Joining.{joint_at, both_to, both}

-- the parts of a tally are all of it
parts_same : (d e : ℕ) (k l : List ℕ) (m n : ℕ) (s t : Option Span) (x y : ℕ) → d ≡ e → k ≡ l → m ≡ n → s ≡ t → x ≡ y
    → ◌≡◌ {A = Tally} (record { d = d; cells = k; met = m; span = s; sum = x }) (record { d = e; cells = l; met = n; span = t; sum = y })
parts_same d e k l m n s t x y p q r u v = rw (p, q, r, u, v)

-- two tallies with the same in every cell
pub same_tally : (a b : Tally) → Whole a → Whole b → a.d ≡ b.d → ((c : ℕ) → c < cell_count → cell_at a c ≡ cell_at b c)
    → a.met ≡ b.met → a.span ≡ b.span → a.sum ≡ b.sum → a ≡ b
same_tally a b p q d f m s x =
    let e : a.cells ≡ b.cells = ext_get_or 0 a.cells b.cells (p ∙ sym q) (λ c h. f c (rw p at h)) in
    parts_same a.d b.d a.cells b.cells a.met b.met a.span b.span a.sum b.sum d e m s x

-- a cell more added up: a clause of its definition
pub more-joined : (a b t : Tally) (n : ℕ) → t ≡ both_to a b n
    → ◌≡◌ {A = Tally} (record { d = t.d; cells = set t.cells n (joint_at a b n); met = t.met; span = t.span; sum = t.sum }) (both_to a b (suc n))
unfolding filled
more-joined a b t n e = rw e

pub both_whole : (a b : Tally) → Whole a → Whole (both a b)
unfolding both
both_whole a b p = length_filled (joint_at a b) a.cells 0 cell_count ∙ p

pub both_at : (a b : Tally) → Whole a → (c : ℕ) → c < cell_count → cell_at (both a b) c ≡ joint_at a b c
unfolding both
both_at a b p c h = filled_below (joint_at a b) a.cells 0 cell_count c (rw p (le_refl 128)) h

-- a response adds one to its cell, and to none where it has none
pub taken_at : (t : Tally) (r : ℕ) → Whole t → (c : ℕ) → c < cell_count → cell_at (taken t r) c ≡ cell_at t c + one_if (eqb c (cell_of t.d r))
unfolding taken
taken_at t r p c h = go (cell_of t.d r) (ℕ_discrete c (cell_of t.d r))
  where
    go : (k : ℕ) → Dec (c ≡ k) → get_or (set t.cells k (cell_at t k + 1)) c 0 ≡ cell_at t c + one_if (eqb c k)
    go k (yes e) = rw (sym e, eq-eqb c c refl) (get_or-set_same t.cells c (cell_at t c + 1) 0 (rw p h))
    go k (no n) = rw (ne_eqb c k n) (get_or-set_other t.cells k c (cell_at t k + 1) 0 n ∙ omega arith)

-- sums at the same places, added up
pub total_both : (f g : ℕ → ℕ) (n : ℕ) → total (λ c. f c + g c) n ≡ total f n + total g n
unfolding total
total_both f g zero = refl
total_both f g (suc n) = omega (arith, total_both f g n)

pub both_total : (a b : Tally) → Whole a → total (cell_at (both a b)) cell_count ≡ total (cell_at a) cell_count + total (cell_at b) cell_count
both_total a b p = total_same (cell_at (both a b)) (joint_at a b) cell_count (both_at a b p) ∙ total_both (cell_at a) (cell_at b) cell_count
