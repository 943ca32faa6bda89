-- A report is the one that the history of its log gets, and no other: 15, then 16, and then each task's tally with the responses of its met jobs. By what is
-- asked before, and by the run that the log's events are.
use Prim.Native.Nat.{ℕ, ◌≤◌, ◌<◌}
use mathlib.Core.Path.{◌≡◌, refl, sym, ap, ◌∙◌}
use mathlib.Core.Bool.{Bool, true, false, cond}
use mathlib.Core.List.{List}
use mathlib.Core.Logic.{◌↔◌}
use native.Mathlib.Decide.{dec_lt}
use native.Mathlib.Omega.{arith}
use lib.Dec.{eqb}
use lib.ListN.{length, get_or}
use lib.Seq.{ext_get_or}
use Rattle.laws.specs.Stores.{filled}
use Rattle.laws.proofs.Answers.{exactly, one_answer}
use Rattle.laws.proofs.Stores.{length_filled, filled_below, filled_past}
use Rattle.laws.proofs.Tests.{Tells, tells, tells_true, tells_false, impossible}
use Rattle.event_logs.specs.Log.{events_of}
use Rattle.event_logs.specs.Ending.{ending_of}
use Rattle.state_rules.specs.declared.State.{State}
use Rattle.state_rules.specs.Sound.{state_holds}
use Rattle.state_rules.proofs.Sounding.{state_tells}
use Rattle.run_histories.specs.History.{run_state}
use Rattle.tally_rules.specs.declared.Tally.{Tally}
use Rattle.tally_rules.specs.declared.Tallies.{Tallies}
use Rattle.tally_rules.specs.Answer.{Accepted}
use Rattle.tally_histories.specs.Answer.{Reported, withheld}
use Rattle.tally_rules.specs.Tally.{no_tally, tally_at}
use Rattle.tally_histories.specs.Events.{tallies_after, all_admit}
use Rattle.tally_histories.specs.Sound.{AllWhole, Beside, tallies_hold, carried_by}
use Rattle.tally_histories.specs.Report.{given, fault_beside, tally_log, reported}
use Rattle.tally_histories.specs.Responses.{tally_after, run_of, AllWithin}
use Rattle.tally_histories.specs.Reports.{historied, Reports, unsound, unsound_tally, other_d, passes, reports}
use Rattle.tally_histories.proofs.Beside.{tallies_tell, carried_tell, beside_none, rooms}
use Rattle.tally_histories.proofs.Runs.{run_tallies, run_length, run_tally, run_past}
use Rattle.tally_histories.proofs.InOrder.{state_told, tallies_told, admit_told}
use Rattle.tally_histories.proofs.Limits.{admits_exactly}

module _ (s : State) (ts : Tallies) (log : List ℕ) where
  -- what a history gives
  abbrev pub answered : Reported
  answered = record { answer = Accepted; state = run_state s (run_of log); tallies = historied s ts log; ending = ending_of log }

  module _ (b : Beside s ts) where
    room : s.count ≤ length ts.row
    room = rooms ts s.count b.tallies

    -- the tallies after the log's events, place by place
    rows_same : (run_tallies s ts (run_of log)).row ≡ (historied s ts log).row
    rows_same =
        let f = tally_after s ts (run_of log) in
        let n : length (run_tallies s ts (run_of log)).row ≡ length (filled f s.count ts.row) =
        run_length s b.sound ts room (run_of log) ∙ sym (length_filled f ts.row no_tally s.count) in
        ext_get_or no_tally (run_tallies s ts (run_of log)).row (filled f s.count ts.row) n (λ i h. at i (dec_lt i s.count))
      where
        at : (i : ℕ) → Dec (i < s.count)
            → tally_at (run_tallies s ts (run_of log)) i ≡ get_or (filled (tally_after s ts (run_of log)) s.count ts.row) i no_tally
        at i (yes h) =
            run_tally s b.sound ts room (run_of log) i h ∙ sym (filled_below (tally_after s ts (run_of log)) ts.row no_tally s.count i room h)
        at i (no h) =
            run_past s b.sound ts room (run_of log) i (omega arith)
            ∙ sym (filled_past (tally_after s ts (run_of log)) ts.row no_tally s.count i (omega arith))

    pub tallies_are : tallies_after s ts (events_of log) ≡ historied s ts log
    tallies_are = tallies_told s ts (events_of log) ∙ ap (λ (l : List Tally). record { row = l }) rows_same

    given_is : given s ts log ≡ answered
    given_is = rw (state_told s ts (events_of log), tallies_are)

    beside_reported : reported s ts log ≡ tally_log s ts log
    unfolding reported
    beside_reported = rw (beside_none s ts b)

  module _ (w : AllWhole ts s.count) where
    pub admit_tells : Beside s ts → Tells (all_admit s ts (events_of log)) (AllWithin s ts (run_of log))
    admit_tells b =
        rw (admit_told s ts (events_of log)) (tells (admits_exactly s ts b w (run_of log)).0 (admits_exactly s ts b w (run_of log)).1)

    is : Reports s ts log (reported s ts log)
    unfolding reported fault_beside
    is = go (state_holds s) refl (tallies_hold ts s.count) refl (carried_by s ts s.count) refl
      where
        inside : Beside s ts → (b : Bool) → all_admit s ts (events_of log) ≡ b → Reports s ts log (cond b (given s ts log) (withheld s ts 16))
        inside k true q = rw (given_is k) (reports k ((admit_tells k).holds q))
        inside k false q = passes k ((admit_tells k).fails q)

        go : (x : Bool) → state_holds s ≡ x → (y : Bool) → tallies_hold ts s.count ≡ y → (z : Bool) → carried_by s ts s.count ≡ z
            → Reports s ts log (cond (eqb (cond x (cond y (cond z 0 16) 15) 15) 0) (tally_log s ts log) (withheld s ts (cond x (cond y (cond z 0 16) 15) 15)))
        go true p true q true c =
            inside (record { sound = (state_tells s).holds p; tallies = (tallies_tell ts s.count).holds q; carried = (carried_tell s ts s.count).holds c })
            (all_admit s ts (events_of log)) refl
        go true p true q false c = other_d ((state_tells s).holds p) ((tallies_tell ts s.count).holds q) ((carried_tell s ts s.count).fails c)
        go true p false q z c = unsound_tally ((state_tells s).holds p) ((tallies_tell ts s.count).fails q)
        go false p y q z c = unsound ((state_tells s).fails p)

    only : (x : Reported) → Reports s ts log x → x ≡ reported s ts log
    unfolding reported fault_beside
    only x (unsound n) = rw (tells_false (state_tells s) n)
    only x (unsound_tally p n) = rw (tells_true (state_tells s) p, tells_false (tallies_tell ts s.count) n)
    only x (other_d p q n) =
        rw (tells_true (state_tells s) p, tells_true (tallies_tell ts s.count) q, tells_false (carried_tell s ts s.count) n)
    only x (passes b n) = sym (beside_reported b ∙ rw (tells_false (admit_tells b) n))
    only x (reports b k) = sym (beside_reported b ∙ rw (tells_true (admit_tells b) k) (given_is b))

    -- a log gets a report exactly when its history does
    pub report_exactly : (x : Reported) → (reported s ts log ≡ x) ↔ Reports s ts log x
    report_exactly = exactly (Reports s ts log) is only

    -- and no other
    pub report_single : {x y : Reported} → Reports s ts log x → Reports s ts log y → x ≡ y
    report_single = one_answer (Reports s ts log) is only

    -- what is told by a report that is accepted
    pub record Told (x : Reported) : Type 0 where
      pub beside : Beside s ts
      pub within : AllWithin s ts (run_of log)
      pub same : x ≡ answered

    pub accepted_told : (reported s ts log).answer ≡ Accepted → Told (reported s ts log)
    accepted_told = go is
      where
        go : {x : Reported} → Reports s ts log x → x.answer ≡ Accepted → Told x
        go (unsound n) q = impossible cc
        go (unsound_tally p n) q = impossible cc
        go (other_d p r n) q = impossible cc
        go (passes b n) q = impossible cc
        go (reports b k) q = record { beside = b; within = k; same = refl }

    -- and who is within the limits has one
    pub within_accepted : Beside s ts → AllWithin s ts (run_of log) → reported s ts log ≡ answered
    within_accepted b k = sym (only answered (reports b k))

  -- task i's tally in it
  pub historied_at : Beside s ts → (i : ℕ) → i < s.count → tally_at (historied s ts log) i ≡ tally_after s ts (run_of log) i
  historied_at b i h = filled_below (tally_after s ts (run_of log)) ts.row no_tally s.count i (room b) h
