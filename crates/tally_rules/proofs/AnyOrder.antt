-- The order of adding does not matter: two responses give the same tally either way, hence a list does in any order, and refusals do not depend on it.
use Prim.Native.Nat.{ℕ, ◌+◌, ◌≤◌, min, max}
use mathlib.Core.Path.{◌≡◌, refl, sym, ap, ◌∙◌}
use mathlib.Core.List.{List, ◌∷◌}
use native.Mathlib.Decide.{ℕ_discrete}
use native.Mathlib.Omega.{arith}
use lib.ListN.{get_or, set}
use lib.Seq.{get_or-set_other, set_comm}
use Rattle.std.specs.Prelude.{Option, None, Some}
use Rattle.tally_rules.specs.declared.Span.{Span}
use Rattle.tally_rules.specs.declared.Tally.{Tally}
use Rattle.tally_rules.specs.Tally.{cell_of, widened, taken, tally_over}
use Rattle.tally_rules.specs.Adding.{accepted, added}
use Rattle.tally_rules.specs.Responses.{Whole, Within, UpTo, more, Shuffled, same, swap, keep, then, AddedUp, next}
use Rattle.tally_rules.proofs.Taking.{taken_d, taken_whole}
use Rattle.tally_rules.proofs.Fitting.{fits-room, fits_within, within_before, within_fits}
use Rattle.tally_rules.proofs.Kept.{sound_within, taken_sound}
use Rattle.tally_rules.proofs.Exactly.{added-put, put-taken, added_was}
use Rattle.tally_rules.proofs.OneByOne.{added_up_whole}

-- one more at a place of a row
abbrev rise : List ℕ → ℕ → List ℕ
rise l i = set l i (get_or l i 0 + 1)

rise_either_way : (l : List ℕ) (i j : ℕ) → rise (rise l i) j ≡ rise (rise l j) i
rise_either_way l i j = go (ℕ_discrete i j)
  where
    go : Dec (i ≡ j) → rise (rise l i) j ≡ rise (rise l j) i
    go (yes e) = rw e
    go (no n) =
        rw (get_or-set_other l i j (get_or l i 0 + 1) 0 (λ z. n (sym z)), get_or-set_other l j i (get_or l j 0 + 1) 0 n)
        (set_comm l i j (get_or l i 0 + 1) (get_or l j 0 + 1) n)

min_either_way : (a r q : ℕ) → min (min a r) q ≡ min (min a q) r
min_either_way a r q = omega arith

max_either_way : (a r q : ℕ) → max (max a r) q ≡ max (max a q) r
max_either_way a r q = omega arith

widened_either_way : (s : Option Span) (r q : ℕ) → widened (widened s r) q ≡ widened (widened s q) r
widened_either_way None r q =
    let a : min r q ≡ min q r = omega arith in
    let b : max r q ≡ max q r = omega arith in
    rw (a, b)
widened_either_way (Some s) r q = rw (min_either_way s.least r q, max_either_way s.most r q)

pub taken_either_way : (t : Tally) (r q : ℕ) → taken (taken t r) q ≡ taken (taken t q) r
unfolding taken
taken_either_way t r q =
    let s : t.sum + r + q ≡ t.sum + q + r = omega arith in
    rw (rise_either_way t.cells (cell_of t.d r) (cell_of t.d q), widened_either_way t.span r q, s)

-- a list in any order
pub over_same : (t : Tally) (rs qs : List ℕ) → Shuffled rs qs → tally_over t rs ≡ tally_over t qs
unfolding tally_over
over_same t rs qs same = refl
over_same t (r ∷ q ∷ rs) qs swap = taken_either_way (tally_over t rs) q r
over_same t (r ∷ rs) (p ∷ qs) (keep s) = ap (λ (x : Tally). taken x r) (over_same t rs qs s)
over_same t rs qs (then {qs = ps} a b) = over_same t rs ps a ∙ over_same t ps qs b

-- if r and then q are taken, so are q and then r, and the tally is the same
pub adds_either_way : (t x y : Tally) (r q : ℕ) → Whole t → added t r ≡ accepted x → added x q ≡ accepted y
    → (z : Tally) × ((added t q ≡ accepted z) × (added z r ≡ accepted y))
adds_either_way t x y r q w e f =
    let a = added_was t r x e in
    let b = added_was x q y f in
    let m = fits-room t r a.1.0 in
    let v = rw a.1.1 at b in
    let n = fits-room (taken t r) q v.1.0 in
    let h : q ≤ t.d = rw (taken_d t r) at n.within in
    let g : r ≤ (taken t q).d = rw (taken_d t q) m.within in
    let i = fits_within (taken t r) q (taken_whole t r w) (sound_within (taken t r) v.0) v.1.0 in
    let k : Within (taken (taken t q) r) = rw (taken_either_way t r q) at i in
    let wq = taken_whole t q w in
    let o = within_fits t q w h (within_before (taken t q) r wq g k) in
    let s = taken_sound t q w a.0 o in (
      taken t q,
      (
        added-put t q a.0 ∙ put-taken t q o,
        added-put (taken t q) r s ∙ put-taken (taken t q) r (within_fits (taken t q) r wq g k) ∙ ap accepted (sym (v.1.1 ∙ taken_either_way t r q)),
      ),
    )

-- responses that are all taken in one order are all taken in every order, with the same tally
pub any_order : (t x : Tally) (rs qs : List ℕ) → Whole t → Shuffled rs qs → AddedUp t rs x → AddedUp t qs x
any_order t x rs qs w same a = a
any_order t x (r ∷ q ∷ rs) qs w swap (next {x = y} (next {x = z} a e) f) =
    let b = adds_either_way z y x q r (added_up_whole t z rs w a) e f in
    next (next a b.1.0) b.1.1
any_order t x (r ∷ rs) (p ∷ qs) w (keep s) (next {x = y} a e) = next (any_order t y rs qs w s a) e
any_order t x rs qs w (then {qs = ps} s u) a = any_order t x ps qs w u (any_order t x rs ps w s a)

pub up_to_same : (d : ℕ) (rs qs : List ℕ) → Shuffled rs qs → UpTo d rs → UpTo d qs
up_to_same d rs qs same u = u
up_to_same d (r ∷ q ∷ rs) qs swap (more h (more g u)) = more g (more h u)
up_to_same d (r ∷ rs) (p ∷ qs) (keep s) (more h u) = more h (up_to_same d rs qs s u)
up_to_same d rs qs (then {qs = ps} s v) u = up_to_same d ps qs v (up_to_same d rs ps s u)
