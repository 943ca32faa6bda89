-- The tests of soundness are true exactly of a sound tally: clause by clause, and the cells by induction on how many there are.
use Prim.Native.Nat.{ℕ, zero, suc, ◌*◌, ◌≤◌, ◌<◌}
use mathlib.Core.Path.{◌≡◌, refl, sym}
use mathlib.Core.Bool.{Bool, true, false, cond}
use mathlib.Core.List.{List, [], ◌∷◌}
use native.Mathlib.Nat.{not-suc-le-zero}
use native.Mathlib.Decide.{ℕ_discrete}
use native.Mathlib.Omega.{arith}
use borrow.Author.Tests.{le-leb, leb-true, eq-eqb, ne_eqb, eqb-true, eqb-false}
use lib.Dec.{leb, eqb}
use lib.ListN.{get_or}
use Rattle.std.specs.Prelude.{Option, None, Some}
use Rattle.laws.specs.Sums.{total}
use Rattle.laws.proofs.Sums.{total_small}
use Rattle.laws.proofs.Tests.{Tells, tells, each_holds, both_hold, both_true, impossible}
use Rattle.table_rules.specs.Limits.{longest_t}
use Rattle.tally_rules.specs.declared.Span.{Span}
use Rattle.tally_rules.specs.declared.Tally.{Tally}
use Rattle.tally_rules.specs.Tally.{cell_count, most_tallied, cell_at}
use Rattle.tally_rules.specs.Sound.{Spans, none, some, TallySound, span_holds, cells_within, cells_hold, tally_holds}

span_held : (s : Option Span) (d met sum : ℕ) → span_holds s d met sum ≡ true → Spans d met sum s
span_held None d met sum e =
    let b = both_hold (eqb met 0) (eqb sum 0) e in
    none (eqb-true met 0 b.0) (eqb-true sum 0 b.1)
span_held (Some s) d met sum e = go (eqb met 0) refl e
  where
    go : (b : Bool) → eqb met 0 ≡ b → cond b false (cond (leb s.most d) (leb s.least s.most) false) ≡ true → Spans d met sum (Some s)
    go true q f = impossible cc
    go false q f =
        let b = both_hold (leb s.most d) (leb s.least s.most) f in
        let n = eqb-false met 0 q in
        some (omega (arith, n)) (leb-true s.least s.most b.1) (leb-true s.most d b.0)

span_holding : (s : Option Span) (d met sum : ℕ) → Spans d met sum s → span_holds s d met sum ≡ true
span_holding None d met sum (none p q) = both_true (eqb met 0) (eqb sum 0) (eq-eqb met 0 p) (eq-eqb sum 0 q)
span_holding (Some s) d met sum (some p q r) =
    rw (ne_eqb met 0 (λ z. omega arith)) (both_true (leb s.most d) (leb s.least s.most) (le-leb s.most d r) (le-leb s.least s.most q))

-- the first n cells
pub within_held : (l : List ℕ) (n : ℕ) → cells_within l n ≡ true → (c : ℕ) → c < n → get_or l c 0 ≤ most_tallied
unfolding cells_within
within_held l zero e c h = absurd (not-suc-le-zero h)
within_held l (suc n) e c h =
    let b = both_hold (cells_within l n) (leb (get_or l n 0) most_tallied) e in go (ℕ_discrete c n) (within_held l n b.0 c) (leb-true _ most_tallied b.1)
  where
    go : Dec (c ≡ n) → (c < n → get_or l c 0 ≤ most_tallied) → get_or l n 0 ≤ most_tallied → get_or l c 0 ≤ most_tallied
    go (yes q) f g = rw q g
    go (no q) f g = f (omega arith)

pub within_holding : (l : List ℕ) (n : ℕ) → ((c : ℕ) → c < n → get_or l c 0 ≤ most_tallied) → cells_within l n ≡ true
unfolding cells_within
within_holding l zero h = refl
within_holding l (suc n) h =
    both_true (cells_within l n) (leb (get_or l n 0) most_tallied) (within_holding l n (λ c p. h c (omega arith))) (le-leb _ most_tallied (h n (omega arith)))

-- a cell past its limit fails the test of all that have it
pub within_fails : (l : List ℕ) (n i : ℕ) → i < n → most_tallied < get_or l i 0 → cells_within l n ≡ false
within_fails l n i h p = go (cells_within l n) refl
  where
    go : (b : Bool) → cells_within l n ≡ b → b ≡ false
    go false e = refl
    go true e = absurd (omega (arith, within_held l n e i h))

module _ (t : Tally) where
  pub holds_sound : tally_holds t ≡ true → TallySound t
  unfolding tally_holds
  holds_sound e =
      let f = each_holds (leb 1 t.d ∷ leb t.d longest_t ∷ leb t.sum most_tallied ∷ span_holds t.span t.d t.met t.sum
      ∷ cells_hold t.cells t.met ∷ []) e in
      let c = both_hold (cells_within t.cells cell_count) (eqb (total (λ (c : ℕ). get_or t.cells c 0) cell_count) t.met) (f 4) in
      record {
        some = leb-true 1 t.d (f 0);
        limit = leb-true t.d longest_t (f 1);
        sum = leb-true t.sum most_tallied (f 2);
        span = span_held t.span t.d t.met t.sum (f 3);
        cells = within_held t.cells cell_count c.0;
        met = eqb-true (total (λ (c : ℕ). get_or t.cells c 0) cell_count) t.met c.1;
      }

  sound_holds_lem : TallySound t → tally_holds t ≡ true
  unfolding tally_holds
  sound_holds_lem s =
      rw (
        le-leb 1 t.d s.some,
        le-leb t.d longest_t s.limit,
        le-leb t.sum most_tallied s.sum,
        span_holding t.span t.d t.met t.sum s.span,
        within_holding t.cells cell_count s.cells,
        eq-eqb (total (λ (c : ℕ). get_or t.cells c 0) cell_count) t.met s.met,
      )

  pub tally_tells : Tells (tally_holds t) (TallySound t)
  tally_tells = tells holds_sound sound_holds_lem

  -- so the jobs met stay far below 2^64
  pub met_few : TallySound t → t.met ≤ cell_count * most_tallied
  met_few s = rw (sym s.met) (total_small (cell_at t) most_tallied cell_count s.cells)
