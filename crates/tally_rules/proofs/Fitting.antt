-- A response fits exactly where it is within D and the tally with it is within the limits: by what it adds to its cell and to the sum.
use Prim.Native.Nat.{ℕ, ◌+◌, ◌≤◌, ◌<◌}
use mathlib.Core.Path.{◌≡◌}
use mathlib.Core.Bool.{true}
use mathlib.Core.List.{[], ◌∷◌}
use native.Mathlib.Decide.{ℕ_discrete}
use native.Mathlib.Omega.{arith}
use borrow.Author.Tests.{lt-ltb, ltb-true, le-leb, leb-true}
use lib.Dec.{leb, ltb}
use Rattle.laws.proofs.Tests.{Tells, tells, each_holds}
use Rattle.tally_rules.specs.declared.Tally.{Tally}
use Rattle.tally_rules.specs.Tally.{cell_count, most_tallied, cell_of, cell_at, taken}
use Rattle.tally_rules.specs.Adding.{fits}
use Rattle.tally_rules.specs.Responses.{Whole, Within}
use Rattle.tally_rules.proofs.Cells.{cell_below}
use Rattle.tally_rules.proofs.Taking.{taken-sum, taken_here, taken_else, taken_more}

-- the same as facts
pub record Room (t : Tally) (r : ℕ) : Type 0 where
  pub within : r ≤ t.d
  pub cell : cell_at t (cell_of t.d r) + 1 ≤ most_tallied
  pub sum : t.sum + r ≤ most_tallied

module _ (t : Tally) (r : ℕ) where
  pub fits-room : fits t r ≡ true → Room t r
  fits-room e =
      let f = each_holds (leb r t.d ∷ ltb (cell_at t (cell_of t.d r)) most_tallied ∷ leb (t.sum + r) most_tallied ∷ []) e in
      let c = ltb-true (cell_at t (cell_of t.d r)) most_tallied (f 1) in
      record { within = leb-true r t.d (f 0); cell = omega arith; sum = leb-true (t.sum + r) most_tallied (f 2) }

  pub room_fits : Room t r → fits t r ≡ true
  room_fits m =
      let c = m.cell in
      rw (le-leb r t.d m.within, lt-ltb (cell_at t (cell_of t.d r)) most_tallied (omega arith), le-leb (t.sum + r) most_tallied m.sum)

  pub fits_tells : Tells (fits t r) (Room t r)
  fits_tells = tells fits-room room_fits

  module _ (w : Whole t) where
    pub fits_within : Within t → fits t r ≡ true → Within (taken t r)
    fits_within i e =
        let m = fits-room e in
        record { sum = rw (taken-sum t r) m.sum; cells = λ c h. go m c h (ℕ_discrete c (cell_of t.d r)) }
      where
        go : Room t r → (c : ℕ) → c < cell_count → Dec (c ≡ cell_of t.d r) → cell_at (taken t r) c ≤ most_tallied
        go m c h (yes q) = rw (q, taken_here t r w m.within) m.cell
        go m c h (no n) = rw (taken_else t r c n) (i.cells c h)

    module _ (h : r ≤ t.d) (i : Within (taken t r)) where
      -- so the tally was within before
      pub within_before : Within t
      within_before =
          let s = taken-sum t r in
          record { sum = omega (arith, s, i.sum); cells = λ c p. omega (arith, taken_more t r w h c, i.cells c p) }

      pub within_fits : fits t r ≡ true
      within_fits =
          let c = i.cells (cell_of t.d r) (cell_below t.d r h) in
          room_fits (record { within = h; cell = rw (taken_here t r w h) at c; sum = rw (taken-sum t r) at i.sum })
