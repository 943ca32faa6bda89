-- Reading all of a log and writing all again gives the same bytes, and a log that is written reads whole, by induction on its records.
use Prim.Native.Nat.{ℕ, suc, ◌+◌, ◌*◌}
use mathlib.Core.Path.{◌≡◌, refl, ap, ◌∙◌}
use mathlib.Core.List.{List, [], ◌∷◌, ◌++◌}
use native.Mathlib.Omega.{arith}
use lib.ListN.{length, take, drop}
use lib.Seq.{take-add, drop_at}
use Rattle.laws.specs.Bytes.{AreBytes}
use Rattle.laws.proofs.Bytes.{drop-bytes}
use Rattle.event_reading.specs.declared.Event.{Event}
use Rattle.event_logs.specs.Log.{readable_in, readable, events_in, events_of}
use Rattle.event_logs.proofs.Records.{goes_of, by_records}
use Rattle.event_writing.specs.Writing.{record_of, log_of, Writable}
use Rattle.event_writing.proofs.WriteOne.{record_length}
use Rattle.event_writing.proofs.Trips.{fields_back, written_read, record_back}

-- reading all of a log and writing all again gives the same bytes up to where the reading stopped
pub log_again : (s : List ℕ) → AreBytes s → log_of (events_of s) ≡ take (20 * readable s) s
unfolding events_in log_of
log_again =
    by_records (λ s. AreBytes s → log_of (events_of s) ≡ take (20 * readable s) s) (λ s t f. rw t.none)
    (λ s g h f.
    let e : 20 * suc (readable (drop 20 s)) ≡ 20 + 20 * readable (drop 20 s) = omega arith in
    rw (g.counts, e, take-add 20 (20 * readable (drop 20 s)) s, record_back s g.long g.marked f, h (drop-bytes 20 s f)))

-- a log that is written reads whole: as many records
pub log_count : (es : List Event) → Writable es → readable (log_of es) ≡ length es
unfolding log_of Writable readable readable_in
log_count [] w = refl
log_count (e ∷ es) w =
    let q = written_read e (log_of es) w.0.0 w.0.1 in
    let d : drop 20 (record_of e ++ log_of es) ≡ log_of es = drop_at (record_of e) (log_of es) 20 (record_length e) in
    (goes_of (record_of e ++ log_of es) e q).counts ∙ ap suc (ap readable d ∙ log_count es w.1)

-- and the same events
pub log_events : (es : List Event) → Writable es → events_of (log_of es) ≡ es
unfolding log_of events_in Writable
log_events es w = rw (log_count es w) (go es w)
  where
    go : (es : List Event) → Writable es → events_in (length es) (log_of es) ≡ es
    go [] w = refl
    go (e ∷ es) w = rw (fields_back e (log_of es) w.0.1, drop_at (record_of e) (log_of es) 20 (record_length e), go es w.1)
