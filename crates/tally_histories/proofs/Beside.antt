-- What is asked before a log is read is what the tests tell: each of the first places has it where the test over them holds. By induction on how many.
use Prim.Native.Nat.{ℕ, zero, suc, ◌≤◌, ◌<◌}
use mathlib.Core.Path.{◌≡◌, refl, sym, ap, ◌∙◌}
use mathlib.Core.Bool.{Bool, true, false, cond}
use native.Mathlib.Decide.{ℕ_discrete, dec_lt}
use native.Mathlib.Nat.{not-suc-le-zero}
use native.Mathlib.Omega.{arith}
use borrow.Author.Tests.{eqb-true, eq-eqb}
use lib.Dec.{eqb}
use lib.ListN.{length, get_or-eq_default}
use Rattle.laws.proofs.Tests.{Tells, tells, tells_true, both_hold, test_false, true_not_false}
use Rattle.state_rules.specs.declared.State.{State}
use Rattle.state_rules.specs.Sound.{state_holds}
use Rattle.state_rules.proofs.Sounding.{state_tells}
use Rattle.tally_rules.specs.declared.Tallies.{Tallies}
use Rattle.tally_rules.specs.Tally.{no_tally, tally_at}
use Rattle.tally_rules.specs.Sound.{TallySound, tally_holds}
use Rattle.tally_rules.proofs.Telling.{tally_tells}
use Rattle.tally_histories.specs.Sound.{deadline_at, TalliesSound, Carried, Beside, all_below, tallies_hold, carried_by}
use Rattle.tally_histories.specs.Report.{fault_beside}

-- ---- tests over places

module _ (f : ℕ → Bool) where
  pub below_each : (n : ℕ) → all_below f n ≡ true → (i : ℕ) → i < n → f i ≡ true
  unfolding all_below
  below_each zero e i h = absurd (not-suc-le-zero h)
  below_each (suc n) e i h = let b = both_hold (all_below f n) (f n) e in go (ℕ_discrete i n) (below_each n b.0 i) b.1
    where
      go : Dec (i ≡ n) → (i < n → f i ≡ true) → f n ≡ true → f i ≡ true
      go (yes q) k z = ap f q ∙ z
      go (no q) k z = k (omega arith)

  pub below_if : (n : ℕ) → ((i : ℕ) → i < n → f i ≡ true) → all_below f n ≡ true
  unfolding all_below
  below_if zero k = refl
  below_if (suc n) k = rw (below_if n (λ i h. k i (omega arith)), k n (omega arith))

  -- one that fails fails them all
  pub below_fails : (n i : ℕ) → i < n → f i ≡ false → all_below f n ≡ false
  below_fails n i h e = test_false (all_below f n) (λ q. below_each n q i h) (λ q. true_not_false (sym q ∙ e))

-- ---- the tallies

pub tallies_tell : (ts : Tallies) (n : ℕ) → Tells (tallies_hold ts n) (TalliesSound ts n)
tallies_tell ts n =
    let f : ℕ → Bool = λ i. tally_holds (tally_at ts i) in
    tells (λ e i h. (tally_tells (tally_at ts i)).holds (below_each f n e i h)) (λ k. below_if f n (λ i h. tells_true (tally_tells (tally_at ts i)) (k i h)))

pub carried_tell : (s : State) (ts : Tallies) (n : ℕ) → Tells (carried_by s ts n) (Carried s ts n)
carried_tell s ts n =
    let f : ℕ → Bool = λ i. eqb (tally_at ts i).d (deadline_at s i) in
    tells (λ e i h. eqb-true _ _ (below_each f n e i h)) (λ k. below_if f n (λ i h. eq-eqb _ _ (k i h)))

-- ---- all of it

module _ (s : State) (ts : Tallies) where
  pub beside_none : Beside s ts → fault_beside s ts ≡ 0
  unfolding fault_beside
  beside_none b =
      rw (tells_true (state_tells s) b.sound, tells_true (tallies_tell ts s.count) b.tallies, tells_true (carried_tell s ts s.count) b.carried)

  pub none_beside : fault_beside s ts ≡ 0 → Beside s ts
  unfolding fault_beside
  none_beside = go (state_holds s) refl (tallies_hold ts s.count) refl (carried_by s ts s.count) refl
    where
      go : (a : Bool) → state_holds s ≡ a → (b : Bool) → tallies_hold ts s.count ≡ b → (c : Bool) → carried_by s ts s.count ≡ c
          → ◌≡◌ {A = ℕ} (cond a (cond b (cond c 0 16) 15) 15) 0 → Beside s ts
      go true p true q true z e =
          record {
            sound = (state_tells s).holds p;
            tallies = (tallies_tell ts s.count).holds q;
            carried = (carried_tell s ts s.count).holds z;
          }
      go true p true q false z e = absurd (omega (arith, e))
      go true p false q c z e = absurd (omega (arith, e))
      go false p b q c z e = absurd (omega (arith, e))

-- a place past the row holds no sound tally, so there is a place for each task
no_sound : TallySound no_tally → ⊥
no_sound p = omega (arith, p.some)

pub rooms : (ts : Tallies) (n : ℕ) → TalliesSound ts n → n ≤ length ts.row
rooms ts zero k = omega arith
rooms ts (suc n) k = side (dec_lt n (length ts.row))
  where
    side : Dec (n < length ts.row) → suc n ≤ length ts.row
    side (yes h) = h
    side (no h) =
        let d : tally_at ts n ≡ no_tally = get_or-eq_default ts.row no_tally {n = n} (omega arith) in
        absurd (no_sound (rw d at (k n (omega arith))))
