-- A log is gone through record by record: what is left of it, from what was made of the records so far, gives what the whole gives, and ends as it does.
use Prim.Native.Nat.{ℕ, ◌+◌, ◌≤◌}
use mathlib.Core.Path.{◌≡◌, refl, ap, ◌∙◌}
use mathlib.Core.List.{List, [], ◌∷◌}
use native.Mathlib.Omega.{arith}
use lib.ListN.{length, drop, length-drop}
use lib.Seq.{drop-drop}
use Rattle.event_reading.specs.declared.Event.{Event}
use Rattle.event_reading.specs.Reading as R
use Rattle.event_reading.specs.Record.{read_record}
use Rattle.event_logs.specs.Log.{events_of}
use Rattle.event_logs.specs.Ending.{ended_by, ending_from}
use Rattle.event_logs.proofs.Records.{goes_of}
use Rattle.event_logs.proofs.Logs.{events_more, events_none}
use Rattle.event_logs.proofs.Endings.{ending_more, ending_stop}

-- f gives what a list of events makes of a value; last is what the records from start to a place made of first
pub record Going {A B : Type 0} (f : A → List Event → B) (first : A) (log : List ℕ) (start : ℕ) (last : A) (from : ℕ) : Type 0 where
  pub within : from ≤ length log
  pub same : f first (events_of (drop start log)) ≡ f last (events_of (drop from log))
  pub ending : ending_from log start ≡ ending_from log from

module _ {A B : Type 0} (f : A → List Event → B) (first : A) (log : List ℕ) (start : ℕ) where
  pub going_none : start ≤ length log → Going f first log start first start
  going_none h = record { within = h; same = refl; ending = refl }

  module _ (last : A) (from : ℕ) (g : Going f first log start last from) where
    -- a record that reads makes next of last
    pub going_more : (e : Event) (next : A) → read_record (drop from log) ≡ R.Event e
        → ((es : List Event) → f last (e ∷ es) ≡ f next es) → Going f first log start next (from + 20)
    going_more e next q p =
        let l : 20 ≤ length (drop from log) = (goes_of (drop from log) e q).long in
        record {
          within = omega (arith, rw (length-drop from log) at l, g.within);
          same = g.same ∙ ap (f last) (events_more (drop from log) e q) ∙ p (events_of (drop 20 (drop from log))) ∙ rw (drop-drop 20 from log);
          ending = g.ending ∙ ending_more log from e q;
        }

    -- and one that does not is the end
    module _ (k : (e : Event) → read_record (drop from log) ≡ R.Event e → ⊥) where
      pub going_stop : f first (events_of (drop start log)) ≡ f last []
      going_stop = g.same ∙ ap (f last) (events_none (drop from log) k)

      pub going_ending : ending_from log start ≡ ended_by (read_record (drop from log)) from
      going_ending = g.ending ∙ ending_stop log from k
