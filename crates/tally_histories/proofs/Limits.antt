-- All that a run adds fits exactly where the tallies of its met jobs are within the limits: no addition takes anything back, so what is within in the end was
-- so all along. By induction on the events, newest first.
use Prim.Native.Nat.{ℕ, ◌≤◌, ◌<◌}
use mathlib.Core.Path.{◌≡◌, refl, sym, ap, subst}
use mathlib.Core.Bool.{Bool, true, false}
use mathlib.Core.List.{List, [], ◌∷◌}
use mathlib.Core.Logic.{◌↔◌}
use borrow.Author.Tests.{eqb-true, eq-eqb}
use lib.Dec.{eqb}
use lib.ListN.{length}
use Rattle.laws.proofs.Tests.{both_hold, both_true, whenever_holds, whenever_if, by_test}
use Rattle.table_rules.specs.declared.Task.{Task}
use Rattle.event_reading.specs.declared.Event.{Event}
use Rattle.state_rules.specs.declared.State.{State}
use Rattle.state_rules.specs.State.{record_at}
use Rattle.run_histories.specs.History.{run_state, run_record, jobs_of}
use Rattle.tally_rules.specs.declared.Tally.{Tally}
use Rattle.tally_rules.specs.declared.Tallies.{Tallies}
use Rattle.tally_rules.specs.Tally.{tally_at, taken, tally_over}
use Rattle.tally_rules.specs.Adding.{fits}
use Rattle.tally_rules.specs.Responses.{Whole, Within}
use Rattle.tally_rules.proofs.Kept.{sound_within}
use Rattle.tally_rules.proofs.Over.{over_d, over_whole}
use Rattle.tally_rules.proofs.Fitting.{fits_within, within_before, within_fits}
use Rattle.tally_histories.specs.Events.{response_of, closes_met, response_at, admits}
use Rattle.tally_histories.specs.Sound.{AllWhole, Beside}
use Rattle.tally_histories.specs.Responses.{responses_of, tally_after, AllWithin}
use Rattle.tally_histories.proofs.Added.{adds, met_task, in_time}
use Rattle.tally_histories.proofs.Beside.{rooms}
use Rattle.tally_histories.proofs.Runs.{run_tallies, run_admits, run_sound, run_count, run_task, run_tally, after_more}

-- what is admitted fits, at the place where it is added
adds_fits : (s : State) (ts : Tallies) (e : Event) (i : ℕ) → admits s ts e ≡ true → adds s e i ≡ true
    → fits (tally_at ts i) (response_of (record_at s i) e) ≡ true
adds_fits s ts e i a q =
    let b = both_hold (closes_met s e) (eqb e.task i) q in
    subst (λ (j : ℕ). fits (tally_at ts j) (response_of (record_at s j) e) ≡ true) (eqb-true e.task i b.1)
    (whenever_holds (closes_met s e) (fits (tally_at ts e.task) (response_at s e)) a b.0)

module _ (s : State) (ts : Tallies) (b : Beside s ts) (w : AllWhole ts s.count) where
  abbrev tally : List Event → ℕ → Tally
  tally es i = tally_after s ts es i

  abbrev response : Event → List Event → ℕ → ℕ
  response e es i = response_of (run_record s es i) e

  room : s.count ≤ length ts.row
  room = rooms ts s.count b.tallies

  pub whole : (es : List Event) (i : ℕ) → i < s.count → Whole (tally es i)
  whole es i h = over_whole (tally_at ts i) (w i h) (responses_of (jobs_of s es i))

  -- what an event adds is not above the tally's D
  small : (e : Event) (es : List Event) (i : ℕ) → i < s.count → adds (run_state s es) e i ≡ true → response e es i ≤ (tally es i).d
  small e es i h a =
      rw (over_d (tally_at ts i) (responses_of (jobs_of s es i)), b.carried i h, ← ap (λ (t : Task). t.d) (run_task s b.sound es i h))
      (in_time (run_state s es) e (run_sound s b.sound es) i (rw (run_count s b.sound es) h) a)

  -- ---- what fits stays within

  fits_all : (es : List Event) → run_admits s ts es ≡ true → AllWithin s ts es
  unfolding run_admits jobs_of tally_over
  fits_all [] q i h = sound_within (tally_at ts i) (b.tallies i h)
  fits_all (e ∷ es) q i h =
      let p = both_hold (run_admits s ts es) (admits (run_state s es) (run_tallies s ts es) e) q in
      let k = fits_all es p.0 i h in
      rw (after_more s b.sound ts e es i h)
      (by_test Within (adds (run_state s es) e i) _ _
      (λ a.
      fits_within (tally es i) (response e es i) (whole es i h) k
      (subst (λ (t : Tally). fits t (response e es i) ≡ true) (run_tally s b.sound ts room es i h)
      (adds_fits (run_state s es) (run_tallies s ts es) e i p.1 a)))
      (λ a. k))

  -- ---- what is within did fit

  module _ (e : Event) (es : List Event) (k : AllWithin s ts (e ∷ es)) where
    -- at the place of an addition
    added_within : (i : ℕ) → i < s.count → adds (run_state s es) e i ≡ true → Within (taken (tally es i) (response e es i))
    added_within i h a = rw (after_more s b.sound ts e es i h, a) at (k i h)

    within_less : AllWithin s ts es
    within_less i h = go (adds (run_state s es) e i) refl
      where
        go : (c : Bool) → adds (run_state s es) e i ≡ c → Within (tally es i)
        go true a = within_before (tally es i) (response e es i) (whole es i h) (small e es i h a) (added_within i h a)
        go false a = rw (after_more s b.sound ts e es i h, a) at (k i h)

    within_admits : admits (run_state s es) (run_tallies s ts es) e ≡ true
    within_admits =
        whenever_if (closes_met (run_state s es) e) (fits (tally_at (run_tallies s ts es) e.task) (response_at (run_state s es) e))
        (λ c.
        let m = met_task (run_state s es) e c in
        let h : e.task < s.count = rw (run_count s b.sound es) at m in
        let a : adds (run_state s es) e e.task ≡ true = rw c (eq-eqb e.task e.task refl) in
        subst (λ (t : Tally). fits t (response e es e.task) ≡ true) (sym (run_tally s b.sound ts room es e.task h))
        (within_fits (tally es e.task) (response e es e.task) (whole es e.task h) (small e es e.task h a) (added_within e.task h a)))

  all_fit : (es : List Event) → AllWithin s ts es → run_admits s ts es ≡ true
  unfolding run_admits
  all_fit [] k = refl
  all_fit (e ∷ es) k =
      both_true (run_admits s ts es) (admits (run_state s es) (run_tallies s ts es) e) (all_fit es (within_less e es k)) (within_admits e es k)

  pub admits_exactly : (es : List Event) → (run_admits s ts es ≡ true) ↔ AllWithin s ts es
  admits_exactly es = (fits_all es, all_fit es)
