-- A log may be reported in chunks of whole records: going on from the state and the tallies that a chunk left gives what the whole log gives, and a chunk that
-- is refused or has stopped is the whole's report. By the events of two logs one behind the other.
use Prim.Native.Nat.{ℕ, ◌+◌, ◌*◌, ◌≤◌}
use mathlib.Core.Path.{◌≡◌, refl, sym, ap, ◌∙◌}
use mathlib.Core.Bool.{Bool, true, false, cond}
use mathlib.Core.List.{List, [], ◌∷◌, ◌++◌}
use native.Mathlib.Decide.{ℕ_discrete}
use native.Mathlib.Omega.{arith}
use borrow.Author.Tests.{ne_eqb}
use lib.ListN.{length}
use Rattle.event_reading.specs.declared.Event.{Event}
use Rattle.event_logs.specs.Stops.{Ending}
use Rattle.event_logs.specs.Stops as E
use Rattle.event_logs.specs.Log.{readable, events_of}
use Rattle.event_logs.specs.Ending.{ending_of}
use Rattle.event_logs.proofs.Records.{readable-fits}
use Rattle.event_logs.proofs.Rests.{rest_end}
use Rattle.event_logs.proofs.Endings.{ending_whole}
use Rattle.state_rules.specs.declared.State.{State}
use Rattle.apply_events.specs.Apply.{applied}
use Rattle.apply_events.specs.Log.{state_after}
use Rattle.tally_rules.specs.declared.Tallies.{Tallies}
use Rattle.tally_rules.specs.Answer.{Accepted}
use Rattle.tally_histories.specs.Answer.{Reported, withheld}
use Rattle.tally_histories.specs.Events.{tallied, admits, tallies_after, all_admit}
use Rattle.tally_histories.specs.Sound.{AllWhole, Beside}
use Rattle.tally_histories.specs.Report.{given, fault_beside, tally_log, reported}
use Rattle.tally_histories.specs.Chunks.{shifted, behind, goes_on, in_two}
use Rattle.tally_histories.proofs.Beside.{beside_none, none_beside}
use Rattle.tally_histories.proofs.InOrder.{cond_on}
use Rattle.tally_histories.proofs.Appended.{events_append, ending_append, events_stopped, ending_stopped}
use Rattle.tally_histories.proofs.Kept.{after_beside}

-- ---- events behind others

pub state_append : (s : State) (es fs : List Event) → state_after s (es ++ fs) ≡ state_after (state_after s es) fs
unfolding state_after
state_append s [] fs = refl
state_append s (e ∷ es) fs = state_append (applied s e).state es fs

pub tallies_append : (s : State) (ts : Tallies) (es fs : List Event)
    → tallies_after s ts (es ++ fs) ≡ tallies_after (state_after s es) (tallies_after s ts es) fs
unfolding state_after tallies_after
tallies_append s ts [] fs = refl
tallies_append s ts (e ∷ es) fs = tallies_append (applied s e).state (tallied s ts e) es fs

pub admit_append : (s : State) (ts : Tallies) (es fs : List Event)
    → all_admit s ts (es ++ fs) ≡ cond (all_admit s ts es) (all_admit (state_after s es) (tallies_after s ts es) fs) false
unfolding state_after tallies_after all_admit
admit_append s ts [] fs = refl
admit_append s ts (e ∷ es) fs =
    let q = (applied s e).state in
    let us = tallied s ts e in
    ap (λ (b : Bool). cond (admits s ts e) b false) (admit_append q us es fs)
    ∙ cond_on (admits s ts e) (all_admit q us es) (all_admit (state_after q es) (tallies_after q us es) fs)

-- ---- the two chunks

-- what is asked before anything is read does not look at the log
beside_is : (s : State) (ts : Tallies) (log : List ℕ) → Beside s ts → reported s ts log ≡ tally_log s ts log
unfolding reported
beside_is s ts log b = rw (beside_none s ts b)

fault_is : (s : State) (ts : Tallies) (log : List ℕ) → (fault_beside s ts ≡ 0 → ⊥) → reported s ts log ≡ withheld s ts (fault_beside s ts)
unfolding reported
fault_is s ts log n = rw (ne_eqb (fault_beside s ts) 0 n)

module _ (s : State) (ts : Tallies) (a b : List ℕ) (w : AllWhole ts s.count) where
  abbrev s' : State
  s' = state_after s (events_of a)

  abbrev ts' : Tallies
  ts' = tallies_after s ts (events_of a)

  -- the first chunk is read to its end
  module _ (g : Beside s ts) (k : 20 * readable a ≡ length a) where
    given_on : given s ts (a ++ b)
        ≡ record {
          answer = (given s' ts' b).answer;
          state = (given s' ts' b).state;
          tallies = (given s' ts' b).tallies;
          ending = shifted (length a) (ending_of b);
        }
    given_on =
        rw (events_append b a k, ending_append b a k, state_append s (events_of a) (events_of b), tallies_append s ts (events_of a) (events_of b))

    on : all_admit s ts (events_of a) ≡ true
        → tally_log s ts (a ++ b) ≡ behind s ts (length a) (reported s' ts' b).answer (reported s' ts' b)
    on q =
        let e : all_admit s ts (events_of (a ++ b)) ≡ all_admit s' ts' (events_of b) =
        ap (all_admit s ts) (events_append b a k) ∙ admit_append s ts (events_of a) (events_of b) ∙ rw q in
        rw (e, beside_is s' ts' b (after_beside s ts g w (events_of a) q), given_on) (go (all_admit s' ts' (events_of b)))
      where
        x : Reported
        x = given s' ts' b

        go : (c : Bool)
            → cond c (record { answer = x.answer; state = x.state; tallies = x.tallies; ending = shifted (length a) (ending_of b) }) (withheld s ts 16)
            ≡ behind s ts (length a) (cond c x (withheld s' ts' 16)).answer (cond c x (withheld s' ts' 16))
        go true = refl
        go false = refl

    -- what does not fit in it does not fit in the whole
    refused_on : all_admit s ts (events_of a) ≡ false → tally_log s ts (a ++ b) ≡ withheld s ts 16
    refused_on q = rw (events_append b a k, admit_append s ts (events_of a) (events_of b), q)

  -- it stops at a whole record: the whole is reported as the chunk is
  stopped_on : 20 * readable a + 20 ≤ length a → tally_log s ts (a ++ b) ≡ tally_log s ts a
  stopped_on k = rw (events_stopped b a k, ending_stopped b a k)

  module _ (g : Beside s ts) where
    abbrev on_from : Reported → Reported
    on_from q = goes_on s ts (length a) q.answer q.ending q b

    whole_chunk : 20 * readable a ≡ length a → tally_log s ts (a ++ b) ≡ on_from (tally_log s ts a)
    whole_chunk k = go (all_admit s ts (events_of a)) refl
      where
        go : (c : Bool) → all_admit s ts (events_of a) ≡ c → tally_log s ts (a ++ b) ≡ on_from (cond c (given s ts a) (withheld s ts 16))
        go true q = rw ((ending_whole a).1 ((rest_end a).1 k)) (on g k q)
        go false q = refused_on g k q

    stopped_chunk : 20 * readable a + 20 ≤ length a → tally_log s ts (a ++ b) ≡ on_from (tally_log s ts a)
    stopped_chunk k = stopped_on k ∙ sym (go (all_admit s ts (events_of a)))
      where
        by_end : (e : Ending) → ending_of a ≡ e → goes_on s ts (length a) Accepted e (given s ts a) b ≡ given s ts a
        by_end E.Whole q = absurd (omega (arith, k, (rest_end a).0 ((ending_whole a).0 q)))
        by_end (E.Stopped n offset) q = refl

        go : (c : Bool) → on_from (cond c (given s ts a) (withheld s ts 16)) ≡ cond c (given s ts a) (withheld s ts 16)
        go true = by_end (ending_of a) refl
        go false = refl

  -- a chunk of whole records, and what stands behind it
  pub in_chunks : (n : ℕ) → length a ≡ 20 * n → reported s ts (a ++ b) ≡ in_two s ts a (length a) b
  in_chunks n l = go (ℕ_discrete (fault_beside s ts) 0)
    where
      by_length : Beside s ts → Dec (20 * readable a ≡ length a) → reported s ts (a ++ b) ≡ in_two s ts a (length a) b
      by_length g (yes k) = rw (beside_is s ts (a ++ b) g, beside_is s ts a g) (whole_chunk g k)
      by_length g (no k) = rw (beside_is s ts (a ++ b) g, beside_is s ts a g) (stopped_chunk g (omega (arith, readable-fits a)))

      go : Dec (fault_beside s ts ≡ 0) → reported s ts (a ++ b) ≡ in_two s ts a (length a) b
      go (yes z) = by_length (none_beside s ts z) (ℕ_discrete (20 * readable a) (length a))
      go (no z) = rw (fault_is s ts (a ++ b) z, fault_is s ts a z)
