-- Along a run from a sound state the tallies are those of its met jobs, and each of their responses is at most D: by induction on the events, newest first.
use Prim.Native.Nat.{ℕ, ◌≤◌, ◌<◌}
use mathlib.Core.Path.{◌≡◌, refl, sym, ap, ◌∙◌}
use mathlib.Core.Bool.{Bool, true, false, cond}
use mathlib.Core.List.{List, [], ◌∷◌}
use lib.ListN.{length}
use Rattle.laws.proofs.Tests.{by_test}
use Rattle.event_reading.specs.declared.Event.{Event}
use Rattle.table_rules.specs.declared.Task.{Task}
use Rattle.state_rules.specs.declared.State.{State}
use Rattle.state_rules.specs.State.{record_at}
use Rattle.state_rules.specs.Sound.{StateSound}
use Rattle.run_histories.specs.History.{run_state, run_record, jobs_of}
use Rattle.run_histories.proofs.Reached.{event_keeps}
use Rattle.tally_rules.specs.declared.Tally.{Tally}
use Rattle.tally_rules.specs.declared.Tallies.{Tallies}
use Rattle.tally_rules.specs.Tally.{tally_at, taken, tally_over}
use Rattle.tally_rules.specs.Responses.{UpTo, none, more}
use Rattle.tally_histories.specs.Events.{response_of, tallied, admits}
use Rattle.tally_histories.specs.Sound.{deadline_at}
use Rattle.tally_histories.specs.Responses.{responses_of, tally_after}
use Rattle.tally_histories.proofs.Added.{adds, adds_none, one_more, in_time, tally_of_lem, row_length}

-- ---- what a run adds, newest event first

unfoldable pub run_tallies : State → Tallies → List Event → Tallies
run_tallies s ts [] = ts
run_tallies s ts (e ∷ es) = tallied (run_state s es) (run_tallies s ts es) e

unfoldable pub run_admits : State → Tallies → List Event → Bool
run_admits s ts [] = true
run_admits s ts (e ∷ es) = cond (run_admits s ts es) (admits (run_state s es) (run_tallies s ts es) e) false

-- ---- what a run keeps of its state

module _ (s : State) (g : StateSound s) where
  pub run_sound : (es : List Event) → StateSound (run_state s es)
  unfolding run_state
  run_sound [] = g
  run_sound (e ∷ es) = (event_keeps (run_state s es) e (run_sound es)).sound

  pub run_count : (es : List Event) → (run_state s es).count ≡ s.count
  unfolding run_state
  run_count [] = refl
  run_count (e ∷ es) = (event_keeps (run_state s es) e (run_sound es)).count ∙ run_count es

  pub run_task : (es : List Event) (i : ℕ) → i < s.count → (run_record s es i).task ≡ (record_at s i).task
  unfolding run_state
  run_task [] i h = refl
  run_task (e ∷ es) i h = (event_keeps (run_state s es) e (run_sound es)).tasks i (rw (run_count es) h) ∙ run_task es i h

  -- ---- the responses

  -- the responses of task i after one event more
  pub responses_more : (e : Event) (es : List Event) (i : ℕ) → i < s.count
      → responses_of (jobs_of s (e ∷ es) i)
      ≡ cond (adds (run_state s es) e i) (response_of (run_record s es i) e ∷ responses_of (jobs_of s es i)) (responses_of (jobs_of s es i))
  unfolding run_state jobs_of
  responses_more e es i h = one_more (run_state s es) e (run_sound es) i (rw (run_count es) h) (jobs_of s es i)

  -- each is at most D
  pub responses_small : (es : List Event) (i : ℕ) → i < s.count → UpTo (deadline_at s i) (responses_of (jobs_of s es i))
  unfolding run_state jobs_of
  responses_small [] i h = none
  responses_small (e ∷ es) i h =
      rw (responses_more e es i h)
      (by_test (UpTo (deadline_at s i)) (adds (run_state s es) e i) _ _
      (λ a.
      more (rw (← ap (λ (t : Task). t.d) (run_task es i h)) (in_time (run_state s es) e (run_sound es) i (rw (run_count es) h) a)) (responses_small es i h))
      (λ a. responses_small es i h))

  -- ---- the tallies

  -- the tally of task i's met jobs after one event more
  pub after_more : (ts : Tallies) (e : Event) (es : List Event) (i : ℕ) → i < s.count
      → tally_after s ts (e ∷ es) i
      ≡ cond (adds (run_state s es) e i) (taken (tally_after s ts es i) (response_of (run_record s es i) e)) (tally_after s ts es i)
  unfolding tally_over
  after_more ts e es i h = ap (tally_over (tally_at ts i)) (responses_more e es i h) ∙ go (adds (run_state s es) e i)
    where
      go : (b : Bool)
          → tally_over (tally_at ts i) (cond b (response_of (run_record s es i) e ∷ responses_of (jobs_of s es i)) (responses_of (jobs_of s es i)))
          ≡ cond b (taken (tally_after s ts es i) (response_of (run_record s es i) e)) (tally_after s ts es i)
      go true = refl
      go false = refl

  module _ (ts : Tallies) (room : s.count ≤ length ts.row) where
    pub run_length : (es : List Event) → length (run_tallies s ts es).row ≡ length ts.row
    unfolding run_tallies
    run_length [] = refl
    run_length (e ∷ es) = row_length (run_state s es) (run_tallies s ts es) e ∙ run_length es

    run_room : (es : List Event) → (run_state s es).count ≤ length (run_tallies s ts es).row
    run_room es = rw (run_count es, run_length es) room

    -- a task's tally is that of its met jobs
    pub run_tally : (es : List Event) (i : ℕ) → i < s.count → tally_at (run_tallies s ts es) i ≡ tally_after s ts es i
    unfolding run_tallies jobs_of tally_over
    run_tally [] i h = refl
    run_tally (e ∷ es) i h =
        tally_of_lem (run_state s es) (run_tallies s ts es) e (run_room es) i
        ∙ ap (λ (t : Tally). cond (adds (run_state s es) e i) (taken t (response_of (run_record s es i) e)) t) (run_tally es i h)
        ∙ sym (after_more ts e es i h)

    -- a place past the last task stays
    pub run_past : (es : List Event) (i : ℕ) → s.count ≤ i → tally_at (run_tallies s ts es) i ≡ tally_at ts i
    unfolding run_tallies
    run_past [] i h = refl
    run_past (e ∷ es) i h =
        tally_of_lem (run_state s es) (run_tallies s ts es) e (run_room es) i
        ∙ rw (adds_none (run_state s es) e i (rw (run_count es) h)) (run_past es i h)
