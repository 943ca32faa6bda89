-- The tally of two lists is that of the first joined with that of the second: by induction on the lists, since a response more in one of two tallies is a
-- response more in the tally of both.
use Prim.Native.Nat.{ℕ, ◌≤◌}
use mathlib.Core.Path.{◌≡◌, refl, sym, ◌∙◌, ap}
use mathlib.Core.List.{List, [], ◌∷◌, ◌++◌}
use mathlib.Core.Logic.{◌↔◌}
use native.Mathlib.Omega.{arith}
use Rattle.table_rules.specs.Limits.{longest_t}
use Rattle.tally_rules.specs.declared.Tally.{Tally}
use Rattle.tally_rules.specs.Tally.{fresh_tally, taken, tally_over, tally_of}
use Rattle.tally_rules.specs.Adding.{accepted}
use Rattle.tally_rules.specs.Responses.{Whole, Within, UpTo}
use Rattle.tally_rules.proofs.Taking.{taken_whole}
use Rattle.tally_rules.proofs.Kept.{sound_within, fresh_whole, fresh_cell, fresh_sound}
use Rattle.tally_rules.proofs.Over.{over_d, over_whole, over_sound}
use Rattle.tally_sums.specs.Joining.{both, joined}
use Rattle.tally_sums.proofs.Spans.{wider_absent, wider-more}
use Rattle.tally_sums.proofs.Cells.{same_tally, both_whole, both_at, taken_at}
use Rattle.tally_sums.proofs.Joining.{joined_is, joined_sound_lem}
use Rattle.tally_sums.proofs.Orders.{both_either}

-- a response more in either of two tallies
more_first : (a b : Tally) (r : ℕ) → Whole a → both (taken a r) b ≡ taken (both a b) r
unfolding both taken
more_first a b r p =
    let u = taken_whole a r p in
    let v = both_whole a b p in
    same_tally (both (taken a r) b) (taken (both a b) r) (both_whole (taken a r) b u) (taken_whole (both a b) r v) refl
    (λ c h. omega (arith, both_at (taken a r) b u c h, taken_at a r p c h, taken_at (both a b) r v c h, both_at a b p c h))
    (omega arith) (wider-more a.span b.span r) (omega arith)

more_second : (a b : Tally) (r : ℕ) → a.d ≡ b.d → Whole a → Whole b → both a (taken b r) ≡ taken (both a b) r
unfolding taken
more_second a b r e p q =
    both_either a (taken b r) e p (taken_whole b r q) ∙ more_first b a r q ∙ ap (λ (t : Tally). taken t r) (both_either b a (sym e) q p)

-- responses of the second tally alone
over_second : (a b : Tally) (qs : List ℕ) → a.d ≡ b.d → Whole a → Whole b → both a (tally_over b qs) ≡ tally_over (both a b) qs
unfolding tally_over
over_second a b [] e p q = refl
over_second a b (r ∷ qs) e p q =
    more_second a (tally_over b qs) r (e ∙ sym (over_d b qs)) p (over_whole b q qs) ∙ ap (λ (t : Tally). taken t r) (over_second a b qs e p q)

pub join_lists : (a b : Tally) (rs qs : List ℕ) → a.d ≡ b.d → Whole a → Whole b
    → both (tally_over a rs) (tally_over b qs) ≡ tally_over (both a b) (rs ++ qs)
unfolding tally_over
join_lists a b [] qs e p q = over_second a b qs e p q
join_lists a b (r ∷ rs) qs e p q =
    more_first (tally_over a rs) (tally_over b qs) r (over_whole a p rs) ∙ ap (λ (t : Tally). taken t r) (join_lists a b rs qs e p q)

-- nothing is added by a tally in which nothing was met
pub join_fresh : (t : Tally) (d : ℕ) → Whole t → both t (fresh_tally d) ≡ t
unfolding both
join_fresh t d p =
    same_tally (both t (fresh_tally d)) t (both_whole t (fresh_tally d) p) p refl
    (λ c h. omega (arith, both_at t (fresh_tally d) p c h, fresh_cell d c h))
    (omega arith) (wider_absent t.span) (omega arith)

-- responses on top of a tally are the tally joined with theirs
pub over_is_joined : (t : Tally) (rs : List ℕ) → Whole t → tally_over t rs ≡ both t (tally_of t.d rs)
over_is_joined t rs p =
    let f = fresh_tally t.d in
    sym (over_second t f rs refl p (fresh_whole t.d) ∙ ap (λ (x : Tally). tally_over x rs) (join_fresh t t.d p))

pub two_lists : (d : ℕ) (rs qs : List ℕ) → tally_of d (rs ++ qs) ≡ both (tally_of d rs) (tally_of d qs)
two_lists d rs qs =
    let f = fresh_tally d in
    let c = fresh_whole d in
    sym (join_lists f f rs qs refl c c ∙ ap (λ (x : Tally). tally_over x (rs ++ qs)) (join_fresh f d c))

-- the tallies of two lists join exactly where the tally of both lists is within the limits, and join to it
module _ (d : ℕ) (rs qs : List ℕ) (one : 1 ≤ d) (limit : d ≤ longest_t) (u : UpTo d rs) (v : UpTo d qs) where
  abbrev first : Tally
  first = tally_of d rs

  abbrev second : Tally
  second = tally_of d qs

  pub lists_join : (joined first second ≡ accepted (tally_of d (rs ++ qs))) ↔ Within (tally_of d (rs ++ qs))
  unfolding both
  lists_join = (λ e. sound_within (tally_of d (rs ++ qs)) (joined_sound_lem first second w e), λ i. joins (rw (two_lists d rs qs) at i))
    where
      w : Whole first
      w = over_whole (fresh_tally d) (fresh_whole d) rs

      -- each part of what is within is within
      joins : Within (both first second) → joined first second ≡ accepted (tally_of d (rs ++ qs))
      joins i =
          let f = fresh_tally d in
          let at = both_at first second w in
          let s = fresh_sound d one limit in
          let x : Within first = record { sum = omega (arith, i.sum); cells = λ c h. omega (arith, i.cells c h, at c h) } in
          let y : Within second = record { sum = omega (arith, i.sum); cells = λ c h. omega (arith, i.cells c h, at c h) } in
          joined_is first second
          (record {
            first = over_sound f (fresh_whole d) s rs u x;
            second = over_sound f (fresh_whole d) s qs v y;
            one_d = over_d f rs ∙ sym (over_d f qs);
            sum = i.sum;
            cells = λ c h. omega (arith, i.cells c h, at c h);
            tally = two_lists d rs qs;
          })
