-- An addition is refused with 15 and with 16 exactly where the rules say so, and a refused one leaves the tally: case by case of the two tests.
use Prim.Native.Nat.{ℕ, ◌+◌, ◌<◌}
use mathlib.Core.Path.{◌≡◌, refl, sym, ap, ◌∙◌}
use mathlib.Core.Bool.{Bool, true, false, cond}
use mathlib.Core.Logic.{◌↔◌, ◌⊎◌, inl, inr}
use native.Mathlib.Decide.{dec_lt}
use native.Mathlib.Omega.{arith}
use Rattle.laws.proofs.Answers.{exactly}
use Rattle.laws.proofs.Tests.{tells_true, tells_false, impossible}
use Rattle.tally_rules.specs.declared.Tally.{Tally}
use Rattle.tally_rules.specs.Tally.{most_tallied, cell_of, cell_at, taken}
use Rattle.tally_rules.specs.Sound.{TallySound, tally_holds}
use Rattle.tally_rules.specs.Answer.{Accepted, Refused, Tallied}
use Rattle.tally_rules.specs.Adding.{kept, accepted, fits, put_in, added, Adds, unsound, refused, takes}
use Rattle.tally_rules.specs.Responses.{Whole}
use Rattle.tally_rules.proofs.Telling.{tally_tells}
use Rattle.tally_rules.proofs.Fitting.{Room, fits-room, fits_tells}
use Rattle.tally_rules.proofs.Kept.{taken_sound}

module _ (t : Tally) (r : ℕ) where
  abbrev Over : Type 0
  Over = (t.d < r) ⊎ ((most_tallied < cell_at t (cell_of t.d r) + 1) ⊎ (most_tallied < t.sum + r))

  no_room : (Room t r → ⊥) → Over
  no_room n = go (dec_lt t.d r) (dec_lt most_tallied (cell_at t (cell_of t.d r) + 1)) (dec_lt most_tallied (t.sum + r))
    where
      go : Dec (t.d < r) → Dec (most_tallied < cell_at t (cell_of t.d r) + 1) → Dec (most_tallied < t.sum + r) → Over
      go (yes p) b c = inl p
      go (no p) (yes q) c = inr (inl q)
      go (no p) (no q) (yes s) = inr (inr s)
      go (no p) (no q) (no s) = absurd (n (record { within = omega arith; cell = omega arith; sum = omega arith }))

  over_room : Over → Room t r → ⊥
  over_room (inl p) m = omega (arith, m.within)
  over_room (inr (inl p)) m = omega (arith, m.cell)
  over_room (inr (inr p)) m = omega (arith, m.sum)

  added_unsound : (TallySound t → ⊥) → added t r ≡ kept t 15
  unfolding added
  added_unsound n = rw (tells_false (tally_tells t) n)

  pub added-put : TallySound t → added t r ≡ put_in t r
  unfolding added
  added-put s = rw (tells_true (tally_tells t) s)

  pub put-taken : fits t r ≡ true → put_in t r ≡ accepted (taken t r)
  put-taken e = rw e

  pub put-kept : fits t r ≡ false → put_in t r ≡ kept t 16
  put-kept e = rw e

  adds : Adds t r (added t r)
  unfolding added
  adds = go (tally_holds t) (fits t r) refl refl
    where
      go : (a b : Bool) → tally_holds t ≡ a → fits t r ≡ b → Adds t r (cond a (cond b (accepted (taken t r)) (kept t 16)) (kept t 15))
      go false b p q = unsound ((tally_tells t).fails p)
      go true false p q = refused ((tally_tells t).holds p) (no_room ((fits_tells t r).fails q))
      go true true p q = let m = fits-room t r q in takes ((tally_tells t).holds p) m.within m.cell m.sum

  adds_only : (x : Tallied) → Adds t r x → x ≡ added t r
  adds_only x (unsound n) = sym (added_unsound n)
  adds_only x (refused s o) = sym (added-put s ∙ put-kept (tells_false (fits_tells t r) (over_room o)))
  adds_only x (takes s h c q) =
      sym (added-put s ∙ put-taken (tells_true (fits_tells t r) (record { within = h; cell = c; sum = q })))

  pub adding_exactly : (x : Tallied) → (added t r ≡ x) ↔ Adds t r x
  adding_exactly = exactly (Adds t r) adds adds_only

  pub refused_stays : (n : ℕ) → (added t r).answer ≡ Refused n → (added t r).tally ≡ t
  refused_stays n = go (added t r) adds
    where
      go : (x : Tallied) → Adds t r x → x.answer ≡ Refused n → x.tally ≡ t
      go x (unsound u) e = refl
      go x (refused s o) e = refl
      go x (takes s h c q) e = impossible cc

  -- what an accepted addition was, and came to
  pub added_was : (x : Tally) → added t r ≡ accepted x → TallySound t × ((fits t r ≡ true) × (x ≡ taken t r))
  added_was x e = go (accepted x) ((adding_exactly (accepted x)).0 e) refl
    where
      go : (y : Tallied) → Adds t r y → y ≡ accepted x → TallySound t × ((fits t r ≡ true) × (x ≡ taken t r))
      go y (unsound u) q = let z : Refused 15 ≡ Accepted = ap (λ (v : Tallied). v.answer) q in impossible cc
      go y (refused s o) q = let z : Refused 16 ≡ Accepted = ap (λ (v : Tallied). v.answer) q in impossible cc
      go y (takes s h c p) q = (s, (tells_true (fits_tells t r) (record { within = h; cell = c; sum = p }), sym (ap (λ (v : Tallied). v.tally) q)))

  pub added_sound : Whole t → (x : Tally) → added t r ≡ accepted x → TallySound x
  added_sound w x e =
      let a = added_was x e in
      rw a.1.1 (taken_sound t r w a.0 a.1.0)
