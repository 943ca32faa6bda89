-- The tally of a list of responses has in each cell their count, together as many as there are, their exact sum, and their least and most: by induction on
-- the list.
use Prim.Native.Nat.{ℕ, ◌≤◌, ◌<◌, min, max}
use mathlib.Core.Path.{◌≡◌}
use mathlib.Core.List.{List, [], ◌∷◌}
use native.Mathlib.Decide.{dec_le}
use native.Mathlib.Omega.{arith}
use lib.ListN.{length}
use Rattle.laws.specs.Sums.{total}
use Rattle.laws.proofs.Sums.{total_zero}
use Rattle.std.specs.Prelude.{Option, None, Some}
use Rattle.tally_rules.specs.declared.Span.{Span}
use Rattle.tally_rules.specs.Tally.{cell_count, cell_at, fresh_tally, widened, taken, tally_over, tally_of}
use Rattle.tally_rules.specs.Responses.{UpTo, count_in, sum_of, Among, here, later, SpanOf, empty, between}
use Rattle.tally_rules.proofs.Kept.{fresh_whole, fresh_cell}
use Rattle.tally_rules.proofs.Over.{over_met, over_sum, over_cell, over_total}

module _ (d : ℕ) (rs : List ℕ) where
  pub met_is : (tally_of d rs).met ≡ length rs
  met_is = omega (arith, over_met (fresh_tally d) rs)

  pub sum_is : (tally_of d rs).sum ≡ sum_of rs
  sum_is = omega (arith, over_sum (fresh_tally d) rs)

  pub cells_are : UpTo d rs → (c : ℕ) → c < cell_count → cell_at (tally_of d rs) c ≡ count_in d c rs
  cells_are u c h = omega (arith, over_cell (fresh_tally d) (fresh_whole d) rs u c, fresh_cell d c h)

  pub cells_met : UpTo d rs → total (cell_at (tally_of d rs)) cell_count ≡ length rs
  cells_met u = omega (arith, over_total (fresh_tally d) (fresh_whole d) rs u, total_zero (cell_at (fresh_tally d)) cell_count (fresh_cell d))

-- the least and the most of a list with one response more
span_more : (r : ℕ) (rs : List ℕ) (s : Option Span) → SpanOf rs s → SpanOf (r ∷ rs) (widened s r)
span_more r rs None empty = between here here only
  where
    only : (q : ℕ) → Among q (r ∷ []) → (r ≤ q) × (q ≤ r)
    only q here = (omega arith, omega arith)
    only q (later m) = elim m [ ]
span_more r rs (Some s) (between a b h) = between (low (dec_le s.least r)) (high (dec_le r s.most)) each
  where
    low : Dec (s.least ≤ r) → Among (min s.least r) (r ∷ rs)
    low (yes p) = let e : min s.least r ≡ s.least = omega arith in rw e (later a)
    low (no n) = let e : min s.least r ≡ r = omega arith in rw e here

    high : Dec (r ≤ s.most) → Among (max s.most r) (r ∷ rs)
    high (yes p) = let e : max s.most r ≡ s.most = omega arith in rw e (later b)
    high (no n) = let e : max s.most r ≡ r = omega arith in rw e here

    each : (q : ℕ) → Among q (r ∷ rs) → (min s.least r ≤ q) × (q ≤ max s.most r)
    each q here = (omega arith, omega arith)
    each q (later m) = (omega (arith, (h q m).0), omega (arith, (h q m).1))

pub span_is : (d : ℕ) (rs : List ℕ) → SpanOf rs (tally_of d rs).span
unfolding tally_over taken
span_is d [] = empty
span_is d (r ∷ rs) = span_more r rs (tally_of d rs).span (span_is d rs)
