-- A report that is accepted leaves what the next one asks for: a sound state, sound tallies with their tasks' D, and all their cells. By the tallies of its
-- run.
use Prim.Native.Nat.{ℕ, ◌≤◌, ◌<◌}
use mathlib.Core.Path.{◌≡◌, sym, ap, subst, ◌∙◌}
use mathlib.Core.Bool.{true}
use mathlib.Core.List.{List, reverse}
use lib.ListN.{length}
use Rattle.table_rules.specs.declared.Task.{Task}
use Rattle.event_reading.specs.declared.Event.{Event}
use Rattle.state_rules.specs.declared.State.{State}
use Rattle.apply_events.specs.Log.{state_after}
use Rattle.run_histories.specs.History.{run_state, jobs_of}
use Rattle.tally_rules.specs.declared.Tally.{Tally}
use Rattle.tally_rules.specs.declared.Tallies.{Tallies}
use Rattle.tally_rules.specs.Tally.{tally_at}
use Rattle.tally_rules.specs.Sound.{TallySound}
use Rattle.tally_rules.specs.Responses.{UpTo}
use Rattle.tally_rules.proofs.Over.{over_d, over_sound}
use Rattle.tally_histories.specs.Events.{tallies_after, all_admit}
use Rattle.tally_histories.specs.Sound.{AllWhole, Beside}
use Rattle.tally_histories.specs.Responses.{responses_of, tally_after, AllWithin}
use Rattle.tally_histories.proofs.Beside.{rooms}
use Rattle.tally_histories.proofs.Runs.{run_tallies, run_sound, run_count, run_task, run_tally, responses_small}
use Rattle.tally_histories.proofs.InOrder.{state_told, tallies_told, admit_told}
use Rattle.tally_histories.proofs.Limits.{whole, admits_exactly}

module _ (s : State) (ts : Tallies) (b : Beside s ts) (w : AllWhole ts s.count) where
  room : s.count ≤ length ts.row
  room = rooms ts s.count b.tallies

  module _ (es : List Event) where
    -- a task of the state after the run is one of the state before it
    place : (i : ℕ) → i < (run_state s es).count → i < s.count
    place i h = rw (run_count s b.sound es) at h

    pub run_whole : AllWhole (run_tallies s ts es) (run_state s es).count
    run_whole i h = rw (run_tally s b.sound ts room es i (place i h)) (whole s ts b w es i (place i h))

    pub run_beside : AllWithin s ts es → Beside (run_state s es) (run_tallies s ts es)
    run_beside k =
        record {
          sound = run_sound s b.sound es;
          tallies = λ i h. rw (run_tally s b.sound ts room es i (place i h)) (sound i (place i h));
          carried =
              λ i h.
              ap (λ (t : Tally). t.d) (run_tally s b.sound ts room es i (place i h)) ∙ over_d (tally_at ts i) (responses_of (jobs_of s es i))
              ∙ b.carried i (place i h)
              ∙ sym (ap (λ (t : Task). t.d) (run_task s b.sound es i (place i h)));
        }
      where
        sound : (i : ℕ) → i < s.count → TallySound (tally_after s ts es i)
        sound i h =
            let u = responses_small s b.sound es i h in
            over_sound (tally_at ts i) (w i h) (b.tallies i h) (responses_of (jobs_of s es i))
            (subst (λ (d : ℕ). UpTo d (responses_of (jobs_of s es i))) (sym (b.carried i h)) u) (k i h)

  -- the same in the order of a log
  module _ (es : List Event) where
    pub after_whole : AllWhole (tallies_after s ts es) (state_after s es).count
    after_whole = rw (state_told s ts es, tallies_told s ts es) (run_whole (reverse es))

    pub after_beside : all_admit s ts es ≡ true → Beside (state_after s es) (tallies_after s ts es)
    after_beside q =
        rw (state_told s ts es, tallies_told s ts es) (run_beside (reverse es) ((admits_exactly s ts b w (reverse es)).0 (sym (admit_told s ts es) ∙ q)))
