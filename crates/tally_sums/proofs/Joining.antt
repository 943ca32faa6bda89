-- What joining answers is what the rules say, and a joined tally is sound: each test tells its fact, and the joined cells add up to the jobs met of both.
use Prim.Native.Nat.{ℕ, zero, suc, ◌+◌, ◌≤◌, ◌<◌}
use mathlib.Core.Path.{◌≡◌, refl, sym, ◌∙◌, ap}
use mathlib.Core.Bool.{Bool, true, false, cond}
use mathlib.Core.Logic.{inl, inr, ◌↔◌}
use mathlib.Core.List.{[], ◌∷◌}
use native.Mathlib.Nat.{not-suc-le-zero}
use native.Mathlib.Decide.{ℕ_discrete, dec_le}
use native.Mathlib.Omega.{arith}
use borrow.Author.Tests.{eq-eqb, ne_eqb, eqb-true, eqb-false, leb-false, le-leb, lt-leb, leb-true}
use lib.Dec.{eqb, leb}
use Rattle.laws.specs.Tests.{all_of}
use Rattle.laws.proofs.Answers.{exactly}
use Rattle.laws.proofs.Tests.{Tells, tells_true, test_false, both_hold, both_true, cond_no, cond_same, true_not_false, impossible}
use Rattle.tally_rules.specs.declared.Tally.{Tally}
use Rattle.tally_rules.specs.Tally.{cell_count, most_tallied}
use Rattle.tally_rules.specs.Sound.{TallySound, tally_holds}
use Rattle.tally_rules.specs.Answer.{Accepted, Refused, Tallied}
use Rattle.tally_rules.specs.Adding.{kept, accepted}
use Rattle.tally_rules.specs.Responses.{Whole}
use Rattle.tally_rules.proofs.Telling.{tally_tells}
use Rattle.tally_sums.specs.Joining as J
use Rattle.tally_sums.specs.Joining.{joint_at, both, sums_within, joins, joined_sound, joined, Passes, Joins}
use Rattle.tally_sums.proofs.Spans.{spans_both}
use Rattle.tally_sums.proofs.Cells.{both_at, both_total}

not_accepted : (t u : Tally) (n : ℕ) → kept t n ≡ accepted u → ⊥
not_accepted t u n e = let q : Refused n ≡ Accepted = ap (λ (y : Tallied). y.answer) e in impossible cc

module _ (a b : Tally) where
  pub sums_held : (n : ℕ) → sums_within a b n ≡ true → (c : ℕ) → c < n → joint_at a b c ≤ most_tallied
  unfolding sums_within
  sums_held zero e c h = absurd (not-suc-le-zero h)
  sums_held (suc n) e c h =
      let z = both_hold (sums_within a b n) (leb (joint_at a b n) most_tallied) e in
      go (ℕ_discrete c n) (sums_held n z.0 c) (leb-true (joint_at a b n) most_tallied z.1)
    where
      go : Dec (c ≡ n) → (c < n → joint_at a b c ≤ most_tallied) → joint_at a b n ≤ most_tallied → joint_at a b c ≤ most_tallied
      go (yes q) f g = rw q g
      go (no q) f g = f (omega arith)

  pub sums_holding : (n : ℕ) → ((c : ℕ) → c < n → joint_at a b c ≤ most_tallied) → sums_within a b n ≡ true
  unfolding sums_within
  sums_holding zero h = refl
  sums_holding (suc n) h =
      both_true (sums_within a b n) (leb (joint_at a b n) most_tallied) (sums_holding n (λ c p. h c (omega arith)))
      (le-leb (joint_at a b n) most_tallied (h n (omega arith)))

  -- a cell that passes fails the test of all that have it
  pub sums_fail : (n c : ℕ) → c < n → most_tallied < joint_at a b c → sums_within a b n ≡ false
  sums_fail n c h p = test_false (sums_within a b n) (λ e. sums_held n e c h) (λ q. omega arith)

  -- where the test fails, some cell passes
  pub sums_failed : (n : ℕ) → sums_within a b n ≡ false → (c : ℕ) × (c < n) × (most_tallied < joint_at a b c)
  unfolding sums_within
  sums_failed zero e = impossible cc
  sums_failed (suc n) e = go (sums_within a b n) refl (dec_le (joint_at a b n) most_tallied) (sums_failed n)
    where
      go : (t : Bool) → sums_within a b n ≡ t → Dec (joint_at a b n ≤ most_tallied)
          → (sums_within a b n ≡ false → (c : ℕ) × (c < n) × (most_tallied < joint_at a b c)) → (c : ℕ) × (c < suc n) × (most_tallied < joint_at a b c)
      go true q (yes p) f =
          let y = both_true (sums_within a b n) (leb (joint_at a b n) most_tallied) q (le-leb (joint_at a b n) most_tallied p) in
          absurd (true_not_false (sym y ∙ e))
      go t q (no p) f = (n, omega arith, omega arith)
      go false q (yes p) f = let x = f q in (x.0, omega (arith, x.1), x.2)

  -- what is told of two sound tallies
  by_sums : TallySound a → TallySound b → (x y z : Bool) → eqb a.d b.d ≡ x → leb (a.sum + b.sum) most_tallied ≡ y → sums_within a b cell_count ≡ z
      → Joins a b (cond (all_of (x ∷ y ∷ z ∷ [])) (accepted (both a b)) (kept a 16))
  by_sums p q false y z e f g = J.refused p q (inl (eqb-false a.d b.d e))
  by_sums p q true false z e f g = J.refused p q (inr (inl (leb-false (a.sum + b.sum) most_tallied f)))
  by_sums p q true true false e f g = J.refused p q (inr (inr (sums_failed cell_count g)))
  by_sums p q true true true e f g =
      J.together p q (eqb-true a.d b.d e) (leb-true (a.sum + b.sum) most_tallied f) (sums_held cell_count g)

  by_rules : Joins a b (joined a b)
  unfolding joined
  by_rules = go (tally_holds a) (tally_holds b) (tally_tells a) (tally_tells b)
    where
      go : (x y : Bool) → Tells x (TallySound a) → Tells y (TallySound b) → Joins a b (cond x (cond y (joined_sound a b) (kept a 15)) (kept a 15))
      go false y s t = J.unsound (λ p q. s.fails refl p)
      go true false s t = J.unsound (λ p q. t.fails refl q)
      go true true s t = by_sums (s.holds refl) (t.holds refl) _ _ _ refl refl refl

  -- a sound pair is asked whether it joins, and any other is 15
  joined_of_sound : TallySound a → TallySound b → joined a b ≡ joined_sound a b
  unfolding joined
  joined_of_sound p q = rw (tells_true (tally_tells a) p, tells_true (tally_tells b) q)

  joins_not : Passes a b → joins a b ≡ false
  joins_not (inl e) = rw (ne_eqb a.d b.d e)
  joins_not (inr (inl e)) = rw (lt-leb (a.sum + b.sum) most_tallied e) (cond_same (eqb a.d b.d) false)
  joins_not (inr (inr e)) =
      rw (sums_fail cell_count e.0 e.1 e.2)
      (rw (cond_same (leb (a.sum + b.sum) most_tallied) false) (cond_same (eqb a.d b.d) false))

  only_rules : (y : Tallied) → Joins a b y → y ≡ joined a b
  unfolding joined
  only_rules y (J.unsound n) = sym (go (tally_holds a) (tally_holds b) (tally_tells a) (tally_tells b))
    where
      go : (x y : Bool) → Tells x (TallySound a) → Tells y (TallySound b) → cond x (cond y (joined_sound a b) (kept a 15)) (kept a 15) ≡ kept a 15
      go false y s t = refl
      go true false s t = refl
      go true true s t = absurd (n (s.holds refl) (t.holds refl))
  only_rules y (J.refused p q e) = sym (joined_of_sound p q ∙ cond_no (joins a b) (accepted (both a b)) (kept a 16) (joins_not e))
  only_rules y (J.together p q e f g) =
      sym (joined_of_sound p q ∙ rw (eq-eqb a.d b.d e, le-leb (a.sum + b.sum) most_tallied f, sums_holding cell_count g))

  pub joining_exactly : (x : Tallied) → joined a b ≡ x ↔ Joins a b x
  joining_exactly = exactly (Joins a b) by_rules only_rules

  -- what an accepted joining was told
  pub record Joined (t : Tally) : Type 0 where
    pub first : TallySound a
    pub second : TallySound b
    pub one_d : a.d ≡ b.d
    pub sum : a.sum + b.sum ≤ most_tallied
    pub cells : (c : ℕ) → c < cell_count → joint_at a b c ≤ most_tallied
    pub tally : t ≡ both a b

  pub joined_was : {t : Tally} → joined a b ≡ accepted t → Joined t
  joined_was {t} e = go (accepted t) refl ((joining_exactly (accepted t)).0 e)
    where
      go : (x : Tallied) → x ≡ accepted t → Joins a b x → Joined t
      go x q (J.unsound n) = absurd (not_accepted a t 15 q)
      go x q (J.refused p r n) = absurd (not_accepted a t 16 q)
      go x q (J.together u v w f g) =
          record { first = u; second = v; one_d = w; sum = f; cells = g; tally = sym (ap (λ (y : Tallied). y.tally) q) }

  pub joined_is : {t : Tally} → Joined t → joined a b ≡ accepted t
  joined_is {t} j =
      (joining_exactly (accepted (both a b))).1 (J.together j.first j.second j.one_d j.sum j.cells) ∙ ap accepted (sym j.tally)

  both_sound : Whole a → Joined (both a b) → TallySound (both a b)
  unfolding both
  both_sound p j =
      let s = j.first in
      let t = j.second in
      record {
        some = s.some;
        limit = s.limit;
        sum = j.sum;
        span = spans_both s.span (rw j.one_d t.span);
        cells = λ c h. rw (both_at a b p c h) (j.cells c h);
        met = both_total a b p ∙ omega (arith, s.met, t.met);
      }

  pub joined_sound_lem : {t : Tally} → Whole a → joined a b ≡ accepted t → TallySound t
  joined_sound_lem {t} p e = let j = joined_was e in rw j.tally (both_sound p (rw j.tally at j))

  pub refused_stays : {n : ℕ} → (joined a b).answer ≡ Refused n → (joined a b).tally ≡ a
  refused_stays {n} e = go (joined a b) by_rules e
    where
      go : (x : Tallied) → Joins a b x → x.answer ≡ Refused n → x.tally ≡ a
      go x (J.unsound p) q = refl
      go x (J.refused p r s) q = refl
      go x (J.together u v w f g) q = impossible cc
