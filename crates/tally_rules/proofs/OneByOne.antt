-- Responses added one by one to a sound tally are all taken exactly where none is above D and the whole is within the limits: by induction on the list.
use Prim.Native.Nat.{ℕ}
use mathlib.Core.Path.{◌≡◌, refl, ap, ◌∙◌}
use mathlib.Core.List.{List, [], ◌∷◌}
use mathlib.Core.Logic.{◌↔◌}
use Rattle.tally_rules.specs.declared.Tally.{Tally}
use Rattle.tally_rules.specs.Tally.{taken, tally_over}
use Rattle.tally_rules.specs.Sound.{TallySound}
use Rattle.tally_rules.specs.Responses.{Whole, Within, UpTo, none, more, AddedUp, start, next}
use Rattle.tally_rules.proofs.Fitting.{fits-room, fits_within}
use Rattle.tally_rules.proofs.Kept.{sound_within}
use Rattle.tally_rules.proofs.Over.{over_d, over_whole, over_fits, over_before, over_sound}
use Rattle.tally_rules.proofs.Exactly.{added-put, put-taken, added_was}

-- what was added one by one is the tally of the list
pub added_up_is : (t x : Tally) (rs : List ℕ) → AddedUp t rs x → x ≡ tally_over t rs
unfolding tally_over
added_up_is t x [] start = refl
added_up_is t y (r ∷ rs) (next {x = x} a e) = (added_was x r y e).1.1 ∙ ap (λ (v : Tally). taken v r) (added_up_is t x rs a)

pub added_up_whole : (t x : Tally) (rs : List ℕ) → Whole t → AddedUp t rs x → Whole x
added_up_whole t x rs w a = rw (added_up_is t x rs a) (over_whole t w rs)

module _ (t : Tally) (w : Whole t) (s : TallySound t) where
  all_added : (rs : List ℕ) → UpTo t.d rs → Within (tally_over t rs) → AddedUp t rs (tally_over t rs)
  unfolding tally_over
  all_added [] u i = start
  all_added (r ∷ rs) (more h u) i =
      let b = over_before t w r rs (more h u) i in
      let f = over_fits t w r rs (more h u) i in
      next (all_added rs u b) (added-put (tally_over t rs) r (over_sound t w s rs u b) ∙ put-taken (tally_over t rs) r f)

  all_fitted : (rs : List ℕ) (x : Tally) → AddedUp t rs x → UpTo t.d rs × Within (tally_over t rs)
  unfolding tally_over
  all_fitted [] x start = (none, sound_within t s)
  all_fitted (r ∷ rs) y (next {x = x} a e) =
      let p = all_fitted rs x a in
      let f = rw (added_up_is t x rs a) at (added_was x r y e).1.0 in
      let m = fits-room (tally_over t rs) r f in
      (more (rw (over_d t rs) at m.within) p.0, fits_within (tally_over t rs) r (over_whole t w rs) p.1 f)

  pub added_up_exactly : (rs : List ℕ) → AddedUp t rs (tally_over t rs) ↔ (UpTo t.d rs × Within (tally_over t rs))
  added_up_exactly rs = (all_fitted rs (tally_over t rs), λ p. all_added rs p.0 p.1)
