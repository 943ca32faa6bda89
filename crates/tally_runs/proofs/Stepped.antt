-- One event in the loop: what is stored is what the event adds, it fits, and the tallies stay sound. By what putting in answers.
use Prim.Native.Nat.{ℕ, ◌+◌, ◌<◌}
use mathlib.Core.Path.{◌≡◌, refl, sym, ap, subst, ◌∙◌}
use mathlib.Core.Bool.{Bool, true, false}
use native.Mathlib.Decide.{ℕ_discrete}
use native.Mathlib.Omega.{arith}
use lib.ListN.{length, set, length-set}
use lib.Seq.{get_or-set_same, get_or-set_other}
use Rattle.laws.proofs.Tests.{impossible}
use Rattle.event_reading.specs.declared.Event.{Event}
use Rattle.state_rules.specs.declared.State.{State}
use Rattle.tally_rules.specs.Answer.{Accepted, Refused, Tallied}
use Rattle.tally_rules.specs.declared.Tally.{Tally}
use Rattle.tally_rules.specs.declared.Tallies.{Tallies}
use Rattle.tally_rules.specs.Tally.{cell_count, cell_of, cell_at, no_tally, tally_at, taken}
use Rattle.tally_rules.specs.Sound.{TallySound}
use Rattle.tally_rules.specs.Adding.{accepted, kept, fits, put_in}
use Rattle.tally_rules.proofs.Kept.{taken_sound}
use Rattle.tally_histories.specs.Events.{closes_met, response_at, tallied, admits}
use Rattle.tally_histories.specs.Sound.{TalliesSound}
use Rattle.tally_histories.proofs.Added.{met_task}
use Rattle.tally_histories.proofs.Beside.{rooms}

-- ---- one tally

module _ (t : Tally) (r : ℕ) (x : Tallied) (p : x ≡ put_in t r) where
  pub put_refused : {n : ℕ} → x.answer ≡ Refused n → fits t r ≡ false
  put_refused {n} q = go (fits t r) refl
    where
      go : (b : Bool) → fits t r ≡ b → b ≡ false
      go false e = refl
      go true e = let z : accepted (taken t r) ≡ x = sym (rw e at p) in impossible cc

  pub put-fits : x.answer ≡ Accepted → fits t r ≡ true
  put-fits q = go (fits t r) refl
    where
      go : (b : Bool) → fits t r ≡ b → b ≡ true
      go true e = refl
      go false e = let z : kept t 16 ≡ x = sym (rw e at p) in impossible cc

  pub put_tally : x.answer ≡ Accepted → x.tally ≡ taken t r
  put_tally q = ap (λ (y : Tallied). y.tally) (rw (put-fits q) at p)

  -- a tally that has all its cells has had them before
  pub put_sound : x.answer ≡ Accepted → length x.tally.cells ≡ cell_count → TallySound t → TallySound x.tally
  unfolding taken
  put_sound q l s =
      let e = put_tally q in
      let w = sym (length-set t.cells (cell_of t.d r) (cell_at t (cell_of t.d r) + 1)) ∙ sym (ap (λ (y : Tally). length y.cells) e) ∙ l in
      subst TallySound (sym e) (taken_sound t r w s (put-fits q))

-- what is refused is refused by 16
pub put_number : (t : Tally) (r n : ℕ) → kept t n ≡ put_in t r → n ≡ 16
put_number t r n p = go (fits t r) refl
  where
    go : (b : Bool) → fits t r ≡ b → n ≡ 16
    go true e = let z : Refused n ≡ Accepted = ap (λ (x : Tallied). x.answer) (rw e at p) in impossible cc
    go false e = let z : Refused n ≡ Refused 16 = ap (λ (x : Tallied). x.answer) (rw e at p) in cc

-- ---- all of them

-- after an event
pub record Stepped (s : State) (ts : Tallies) (e : Event) (n : ℕ) (next : Tallies) : Type 0 where
  pub same : next ≡ tallied s ts e
  pub admitted : admits s ts e ≡ true
  pub sound : TalliesSound next n

module _ (s : State) (ts : Tallies) (e : Event) (g : TalliesSound ts s.count) where
  pub stepped_none : closes_met s e ≡ false → Stepped s ts e s.count ts
  stepped_none c = record { same = rw c; admitted = rw c; sound = g }

  module _ (c : closes_met s e ≡ true) (x : Tallied) (p : x ≡ put_in (tally_at ts e.task) (response_at s e)) where
    abbrev t : Tally
    t = tally_at ts e.task

    abbrev r : ℕ
    r = response_at s e

    pub stepped_refused : {n : ℕ} → x.answer ≡ Refused n → admits s ts e ≡ false
    stepped_refused q = rw c (put_refused t r x p q)

    pub stepped_more : x.answer ≡ Accepted → length x.tally.cells ≡ cell_count
        → Stepped s ts e s.count (record { row = set ts.row e.task x.tally })
    stepped_more q l =
        record {
          same = rw (c, put_tally t r x p q);
          admitted = rw c (put-fits t r x p q);
          sound = λ i h. each i h (ℕ_discrete i e.task);
        }
      where
        each : (i : ℕ) → i < s.count → Dec (i ≡ e.task) → TallySound (tally_at (record { row = set ts.row e.task x.tally }) i)
        each i h (yes z) =
            let m = met_task s e c in
            let d = get_or-set_same ts.row e.task x.tally no_tally (omega (arith, rooms ts s.count g)) in
            rw (z, d) (put_sound t r x p q l (g e.task m))
        each i h (no z) = rw (get_or-set_other ts.row e.task i x.tally no_tally z) (g i h)
