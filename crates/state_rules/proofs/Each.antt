-- A test of every position holds exactly if each position's does: by induction on how many were looked at.
use Prim.Native.Nat.{ℕ, zero, suc, ◌≤◌, ◌<◌}
use mathlib.Core.Path.{◌≡◌, refl, ap, ◌∙◌}
use mathlib.Core.Bool.{Bool, true, false, cond, ◌&&◌}
use mathlib.Core.List.{List}
use native.Mathlib.Decide.{ℕ_discrete}
use native.Mathlib.Nat.{not-suc-le-zero}
use native.Mathlib.Numerals.{add-one}
use native.Mathlib.Omega.{arith}
use lib.ListN.{get_or, length, take}
use Rattle.std.specs.List.{list_all}
use Rattle.std.proofs.lemmas.List.Folds.{list_all_more}
use Rattle.laws.proofs.Tests.{both_hold}
use Rattle.task_records.specs.declared.Record.{Record}
use Rattle.task_steps.specs.Opening.{no_record}
use Rattle.task_soundness.specs.Sound.{sound_holds}
use Rattle.state_rules.specs.Sound.{each_holds}

both_is : (a b : Bool) → (a && b) ≡ cond a b false
both_is true b = refl
both_is false b = refl

module _ (l : List Record) (clock : ℕ) where
  pub each_at : (n : ℕ) → each_holds l clock n ≡ true → (i : ℕ) → i < n → sound_holds (get_or l i no_record) clock ≡ true
  unfolding each_holds
  each_at zero e i h = absurd (not-suc-le-zero h)
  each_at (suc n) e i h = go (ℕ_discrete i n) (each_at n (both_hold (each_holds l clock n) (sound_holds (get_or l n no_record) clock) e).0)
    where
      go : Dec (i ≡ n) → ((j : ℕ) → j < n → sound_holds (get_or l j no_record) clock ≡ true) → sound_holds (get_or l i no_record) clock ≡ true
      go (yes q) k =
          ap (λ (j : ℕ). sound_holds (get_or l j no_record) clock) q
          ∙ (both_hold (each_holds l clock n) (sound_holds (get_or l n no_record) clock) e).1
      go (no q) k = k i (omega arith)

  pub each_if : (n : ℕ) → ((i : ℕ) → i < n → sound_holds (get_or l i no_record) clock ≡ true) → each_holds l clock n ≡ true
  unfolding each_holds
  each_if zero k = refl
  each_if (suc n) k = rw (each_if n (λ i h. k i (omega arith)), k n (omega arith))

  -- so does the library's test of the row's first positions
  pub each_is : (n : ℕ) → n ≤ length l → list_all (λ r. sound_holds r clock) (take n l) ≡ each_holds l clock n
  unfolding each_holds
  each_is zero h = refl
  each_is (suc n) h =
      let e = list_all_more (λ (r : Record). sound_holds r clock) l n no_record (omega arith) in
      let f = each_is n (omega arith) in
      rw add-one at e ∙ both_is (list_all (λ (r : Record). sound_holds r clock) (take n l)) _ ∙ rw f
