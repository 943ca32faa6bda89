-- Responses on top of a tally: if the whole is within the limits, each of them fitted when it came: by induction on the list, newest first.
use Prim.Native.Nat.{ℕ, ◌+◌, ◌≤◌}
use mathlib.Core.Path.{◌≡◌, refl, ◌∙◌}
use mathlib.Core.Bool.{true}
use mathlib.Core.List.{List, [], ◌∷◌}
use native.Mathlib.Omega.{arith}
use lib.ListN.{length}
use Rattle.laws.specs.Sums.{total}
use Rattle.tally_rules.specs.declared.Tally.{Tally}
use Rattle.tally_rules.specs.Tally.{cell_count, cell_at, tally_over}
use Rattle.tally_rules.specs.Sound.{TallySound}
use Rattle.tally_rules.specs.Adding.{fits}
use Rattle.tally_rules.specs.Responses.{Whole, Within, UpTo, more, count_in, sum_of}
use Rattle.tally_rules.proofs.Taking.{taken_d, taken_met, taken-sum, taken_whole, taken_cell, taken-total}
use Rattle.tally_rules.proofs.Fitting.{within_before, within_fits}
use Rattle.tally_rules.proofs.Kept.{taken_sound}

module _ (t : Tally) where
  pub over_d : (rs : List ℕ) → (tally_over t rs).d ≡ t.d
  unfolding tally_over
  over_d [] = refl
  over_d (r ∷ rs) = taken_d (tally_over t rs) r ∙ over_d rs

  pub over_met : (rs : List ℕ) → (tally_over t rs).met ≡ t.met + length rs
  unfolding tally_over
  over_met [] = omega arith
  over_met (r ∷ rs) = omega (arith, taken_met (tally_over t rs) r, over_met rs)

  pub over_sum : (rs : List ℕ) → (tally_over t rs).sum ≡ t.sum + sum_of rs
  unfolding tally_over sum_of
  over_sum [] = omega arith
  over_sum (r ∷ rs) = omega (arith, taken-sum (tally_over t rs) r, over_sum rs)

  module _ (w : Whole t) where
    pub over_whole : (rs : List ℕ) → Whole (tally_over t rs)
    unfolding tally_over
    over_whole [] = w
    over_whole (r ∷ rs) = taken_whole (tally_over t rs) r (over_whole rs)

    pub over_cell : (rs : List ℕ) → UpTo t.d rs → (c : ℕ) → cell_at (tally_over t rs) c ≡ cell_at t c + count_in t.d c rs
    unfolding tally_over count_in
    over_cell [] u c = omega arith
    over_cell (r ∷ rs) (more h u) c =
        let s = tally_over t rs in
        let e = taken_cell s r (over_whole rs) (rw (over_d rs) h) c in
        omega (arith, rw (over_d rs) at e, over_cell rs u c)

    pub over_total : (rs : List ℕ) → UpTo t.d rs → total (cell_at (tally_over t rs)) cell_count ≡ total (cell_at t) cell_count + length rs
    unfolding tally_over
    over_total [] u = omega arith
    over_total (r ∷ rs) (more h u) =
        omega (arith, taken-total (tally_over t rs) r (over_whole rs) (rw (over_d rs) h), over_total rs u)

    module _ (r : ℕ) (rs : List ℕ) (u : UpTo t.d (r ∷ rs)) (i : Within (tally_over t (r ∷ rs))) where
      newest : UpTo t.d (r ∷ rs) → r ≤ (tally_over t rs).d
      newest (more h v) = rw (over_d rs) h

      pub over_fits : fits (tally_over t rs) r ≡ true
      unfolding tally_over
      over_fits = within_fits (tally_over t rs) r (over_whole rs) (newest u) i

      pub over_before : Within (tally_over t rs)
      unfolding tally_over
      over_before = within_before (tally_over t rs) r (over_whole rs) (newest u) i

    pub over_sound : TallySound t → (rs : List ℕ) → UpTo t.d rs → Within (tally_over t rs) → TallySound (tally_over t rs)
    unfolding tally_over
    over_sound s [] u i = s
    over_sound s (r ∷ rs) (more h u) i =
        taken_sound (tally_over t rs) r (over_whole rs) (over_sound s rs u (over_before r rs (more h u) i)) (over_fits r rs (more h u) i)
