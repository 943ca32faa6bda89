-- What ended a reading: the computed ending agrees with the rules, both ways, since only one number of records has all before it read and the next not.
use Prim.Native.Nat.{ℕ, suc, ◌+◌, ◌-◌, ◌*◌, ◌≤◌, ◌<◌}
use mathlib.Core.Path.{◌≡◌, refl, ap}
use mathlib.Core.List.{List, [], ◌∷◌}
use mathlib.Core.Logic.{◌↔◌, ◌⊎◌, inl, inr}
use native.Mathlib.Omega.{arith}
use lib.ListN.{length, drop, length-drop}
use lib.Seq.{drop-drop}
use Rattle.laws.proofs.Answers.{exactly, one_answer}
use Rattle.laws.proofs.Tests.{impossible}
use Rattle.event_reading.specs.declared.Event.{Event}
use Rattle.event_reading.specs.Reading.{Reading}
use Rattle.event_reading.specs.Reading as R
use Rattle.event_reading.specs.Record.{event_of, read_record}
use Rattle.event_reading.specs.Answer.{read_said}
use Rattle.event_reading.proofs.ReadOne.{read_end}
use Rattle.event_logs.specs.Stops.{Ending}
use Rattle.event_logs.specs.Stops as E
use Rattle.event_logs.specs.Log.{readable, read_at, rest_of}
use Rattle.event_logs.specs.Ending.{FirstRead, Ends, whole, stopped, ended_by, ending_at, ending_from, ending_of, end_said}
use Rattle.event_logs.proofs.Records.{Goes, Stops, front, goes_of}
use Rattle.event_logs.proofs.Logs.{event_before, readable_only}
use Rattle.event_logs.proofs.Rests.{rest_offset, rest_end, rest_silent, rest_most, rest_refused}

-- ---- record by record

-- a reading that is no refusal is the end
pub ended_whole : (r : Reading) (offset : ℕ) → ((n : ℕ) → r ≡ R.Refused n → ⊥) → ended_by r offset ≡ E.Whole
ended_whole (R.Event e) offset k = refl
ended_whole R.End offset k = refl
ended_whole (R.Refused n) offset k = absurd (k n refl)

module _ (log : List ℕ) where
  -- a reading from the front on
  pub ending_none : ending_from log 0 ≡ ending_of log
  ending_none = let o : 0 + 20 * readable log ≡ 20 * readable log = omega arith in ap (ending_at log) o

  module _ (from : ℕ) where
    -- a record that reads leaves the end to what stands behind it
    pub ending_more : (e : Event) → read_record (drop from log) ≡ R.Event e → ending_from log from ≡ ending_from log (from + 20)
    ending_more e q =
        let n : readable (drop from log) ≡ suc (readable (drop (from + 20) log)) = rw (drop-drop 20 from log) at (goes_of (drop from log) e q).counts in
        let o : from + 20 * readable (drop from log) ≡ (from + 20) + 20 * readable (drop (from + 20) log) = omega arith in
        ap (ending_at log) o

    -- one that does not ends the reading where it stands
    pub ending_stop : ((e : Event) → read_record (drop from log) ≡ R.Event e → ⊥) → ending_from log from ≡ ending_at log from
    ending_stop k = go (front (drop from log))
      where
        go : Goes (drop from log) ⊎ Stops (drop from log) → ending_from log from ≡ ending_at log from
        go (inl g) = absurd (k (event_of (drop from log)) g.reads)
        go (inr t) = let o : from + 20 * readable (drop from log) ≡ from = omega (arith, t.none) in ap (ending_at log) o

-- ---- the rules

module _ (log : List ℕ) where
  before : FirstRead log (readable log)
  before i h = (event_of (drop (20 * i) log), event_before log i h)

  -- every log has its rule
  pub ends_is : Ends log (ending_of log)
  ends_is = go (read_record (rest_of log)) refl
    where
      go : (r : Reading) → read_record (rest_of log) ≡ r → Ends log (ended_by r (20 * readable log))
      go (R.Event e) q = absurd (rest_silent log e q)
      go R.End q = whole (readable log) before ((rest_end log).0 q)
      go (R.Refused n) q = stopped (readable log) before q

  -- and no other
  pub ends_only : (e : Ending) → Ends log e → e ≡ ending_of log
  ends_only e (whole n all none) =
      let r : read_at log n ≡ R.End = (read_end (drop (20 * n) log)).1 (rw length-drop (omega arith)) in
      rw (← readable_only log n all (λ x q. impossible cc), r)
  ends_only e (stopped n all {number} r) = rw (← readable_only log n all (λ x q. impossible cc), r)

  -- a log has an ending exactly when its rule holds
  pub ending_exactly : (e : Ending) → ending_of log ≡ e ↔ Ends log e
  ending_exactly = exactly (Ends log) ends_is ends_only

  -- so the rules admit a single one
  pub ending_single : {a b : Ending} → Ends log a → Ends log b → a ≡ b
  ending_single = one_answer (Ends log) ends_is ends_only

  -- whole is no bytes left
  pub ending_whole : ending_of log ≡ E.Whole ↔ read_record (rest_of log) ≡ R.End
  ending_whole = (go (read_record (rest_of log)) refl, λ q. rw q)
    where
      go : (r : Reading) → read_record (rest_of log) ≡ r → ended_by r (20 * readable log) ≡ E.Whole → r ≡ R.End
      go (R.Event e) q z = absurd (rest_silent log e q)
      go R.End q z = refl
      go (R.Refused n) q z = impossible cc

  -- ---- its number and its offset

  -- the number is that of the record at which the reading ended
  pub ending_number : (end_said (ending_of log)).number ≡ (read_said (read_record (rest_of log))).number
  ending_number = go (read_record (rest_of log))
    where
      go : (r : Reading) → (end_said (ended_by r (20 * readable log))).number ≡ (read_said r).number
      go (R.Event e) = refl
      go R.End = refl
      go (R.Refused n) = refl

  -- which is one of the reading's
  pub ending_most : (end_said (ending_of log)).number ≤ 8
  ending_most = rw ending_number (rest_most log)

  -- a log that is read to its end has none, and no offset
  pub whole_said : 20 * readable log ≡ length log → end_said (ending_of log) ≡ record { number = 0; values = [] }
  whole_said q = rw ((rest_end log).1 q)

  -- any other has 5, 6, 7 or 8, and the offset of the rest's first byte
  pub stopped_said : 0 < length (rest_of log)
      → (5 ≤ (end_said (ending_of log)).number)
      × (((end_said (ending_of log)).number ≤ 8) × ((end_said (ending_of log)).values ≡ (length log - length (rest_of log)) ∷ []))
  stopped_said h =
      let w = rest_refused log h in
      rw (ending_number, rest_offset log) (w.0, (w.1, go (read_record (rest_of log)) w.0))
    where
      go : (r : Reading) → 5 ≤ (read_said r).number → (end_said (ended_by r (20 * readable log))).values ≡ (20 * readable log) ∷ []
      go (R.Event e) p = absurd (omega arith)
      go R.End p = absurd (omega arith)
      go (R.Refused n) p = refl
