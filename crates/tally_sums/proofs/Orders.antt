-- The order of joining does not matter, of two tallies and of three in any grouping: cell by cell, and the refusals are those of the same sums.
use mathlib.Core.Path.{◌≡◌, refl, sym, ◌∙◌, ap}
use mathlib.Core.Logic.{◌↔◌, inl, inr}
use native.Mathlib.Omega.{arith}
use Rattle.tally_rules.specs.declared.Tally.{Tally}
use Rattle.tally_rules.specs.Answer.{Tallied}
use Rattle.tally_rules.specs.Adding.{kept, accepted}
use Rattle.tally_rules.specs.Responses.{Whole}
use Rattle.tally_sums.specs.Joining.{both, joined, Passes, Joins, unsound, refused, together}
use Rattle.tally_sums.proofs.Spans.{wider_either, wider_on}
use Rattle.tally_sums.proofs.Joining.{joining_exactly, Joined, joined_was, joined_is, joined_sound_lem}
use Rattle.tally_sums.proofs.Cells.{same_tally, both_whole, both_at}

pub both_either : (a b : Tally) → a.d ≡ b.d → Whole a → Whole b → both a b ≡ both b a
unfolding both
both_either a b e p q =
    same_tally (both a b) (both b a) (both_whole a b p) (both_whole b a q) e (λ c h. omega (arith, both_at a b p c h, both_at b a q c h)) (omega arith)
    (wider_either a.span b.span) (omega arith)

pub both_on : (a b c : Tally) → Whole a → Whole b → both (both a b) c ≡ both a (both b c)
unfolding both
both_on a b c p q =
    same_tally (both (both a b) c) (both a (both b c)) (both_whole (both a b) c (both_whole a b p)) (both_whole a (both b c) p) refl
    (λ i h. omega (arith, both_at (both a b) c (both_whole a b p) i h, both_at a b p i h, both_at a (both b c) p i h, both_at b c q i h))
    (omega arith) (wider_on a.span b.span c.span) (omega arith)

turned : (a b t : Tally) → Whole a → Whole b → joined a b ≡ accepted t → joined b a ≡ accepted t
turned a b t p q e =
    let j = joined_was a b e in
    joined_is b a
    (record {
      first = j.second;
      second = j.first;
      one_d = sym j.one_d;
      sum = omega (arith, j.sum);
      cells = λ c h. omega (arith, j.cells c h);
      tally = j.tally ∙ both_either a b j.one_d p q;
    })

-- accepted in one order exactly when accepted in the other, and with the same tally
pub join_either_way : (a b t : Tally) → Whole a → Whole b → (joined a b ≡ accepted t) ↔ (joined b a ≡ accepted t)
join_either_way a b t p q = (turned a b t p q, turned b a t q p)

turned_passes : (a b : Tally) → Passes a b → Passes b a
turned_passes a b (inl f) = inl (λ e. f (sym e))
turned_passes a b (inr (inl h)) = inr (inl (omega arith))
turned_passes a b (inr (inr (c, p, h))) = inr (inr (c, p, omega arith))

-- what is refused in one order is refused in the other, with the same number
pub answer_either_way : (a b : Tally) → (joined a b).answer ≡ (joined b a).answer
answer_either_way a b = go (joined a b) ((joining_exactly a b (joined a b)).0 refl)
  where
    says : (x : Tallied) → Joins b a x → x.answer ≡ (joined b a).answer
    says x j = ap (λ (y : Tallied). y.answer) (sym ((joining_exactly b a x).1 j))

    go : (x : Tallied) → Joins a b x → x.answer ≡ (joined b a).answer
    go x (unsound n) = says (kept b 15) (unsound (λ p q. n q p))
    go x (refused p q f) = says (kept b 16) (refused q p (turned_passes a b f))
    go x (together p q e f g) = says (accepted (both b a)) (together q p (sym e) (omega arith) (λ c h. omega (arith, g c h)))

-- three tallies joined to u, the first two before the third, and the last two before the first
abbrev pub FirstTwo : Tally → Tally → Tally → Tally → Type 0
FirstTwo a b c u = (t : Tally) × (joined a b ≡ accepted t) × (joined t c ≡ accepted u)

abbrev pub LastTwo : Tally → Tally → Tally → Tally → Type 0
LastTwo a b c u = (t : Tally) × (joined b c ≡ accepted t) × (joined a t ≡ accepted u)

regrouped : (a b c u : Tally) → Whole a → Whole b → FirstTwo a b c u → LastTwo a b c u
unfolding both
regrouped a b c u p q (t, e, f) = go (joined_was a b e) (joined_was t c f)
  where
    go : Joined a b t → Joined t c u → LastTwo a b c u
    go i j =
        let k : Joined (both a b) c u = rw i.tally at j in
        let at = both_at a b p in
        let r : joined b c ≡ accepted (both b c) = joined_is b c
        (record {
          first = i.second;
          second = k.second;
          one_d = sym i.one_d ∙ k.one_d;
          sum = omega (arith, k.sum);
          cells = λ n h. omega (arith, k.cells n h, at n h);
          tally = refl;
        }) in (
          both b c,
          r,
          joined_is a (both b c)
              (record {
                first = i.first;
                second = joined_sound_lem b c q r;
                one_d = i.one_d;
                sum = omega (arith, k.sum);
                cells = λ n h. omega (arith, k.cells n h, at n h, both_at b c q n h);
                tally = k.tally ∙ both_on a b c p q;
              }),
        )

joined_whole : (a b t : Tally) → Whole a → joined a b ≡ accepted t → Whole t
joined_whole a b t p e = rw (joined_was a b e).tally (both_whole a b p)

-- three in any grouping: accepted whole in one exactly when accepted whole in the other, and with the same tally
pub join_on : (a b c u : Tally) → Whole a → Whole b → Whole c → FirstTwo a b c u ↔ LastTwo a b c u
join_on a b c u p q r = (regrouped a b c u p q, back)
  where
    -- the first grouping of c, b, a, each joining turned
    back : LastTwo a b c u → FirstTwo a b c u
    back (t, e, f) =
        let z = joined_whole b c t q e in
        let x = regrouped c b a u r q (t, turned b c t q r e, turned a t u p z f) in
        (x.0, turned b a x.0 q p x.1, turned c x.0 u r (joined_whole b a x.0 q x.1) x.2)
