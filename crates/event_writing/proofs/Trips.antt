-- Reading and writing one record are each other's inverse, from the round trips of numbers of 8 bytes.
use Prim.Native.Nat.{ℕ, ◌≤◌}
use mathlib.Core.Path.{◌≡◌, refl, sym, ap, ◌∙◌}
use mathlib.Core.List.{List, [], ◌∷◌, ◌++◌, append_assoc}
use native.Mathlib.Omega.{arith}
use lib.ListN.{length, take, drop, length-append, length-drop, take-append-drop}
use lib.Seq.{take_at, drop_at, take-add, length-take-le}
use Rattle.laws.specs.Bytes.{AreBytes}
use Rattle.laws.proofs.Bytes.{drop-bytes, take-bytes}
use Rattle.number_reading.specs.Words.{number}
use Rattle.number_writing.specs.Bytes.{bytes}
use Rattle.number_writing.proofs.Places.{length-bytes}
use Rattle.number_writing.proofs.Trips.{number_of-bytes, bytes_of_number}
use Rattle.event_reading.specs.declared.Event.{Event}
use Rattle.event_reading.specs.Reading as R
use Rattle.event_reading.specs.Event.{Ruled}
use Rattle.event_writing.specs.Writing.{Sized, record_of, after_write, stored}
use Rattle.event_reading.specs.Record.{Marked, event_of, read_record, whole}
use Rattle.event_reading.proofs.ReadOne.{reads_only, event-of}
use Rattle.event_writing.proofs.WriteOne.{record_length, writes_only}

-- the numbers of a record, whatever stands behind it, are its event's
pub fields_back : (e : Event) (t : List ℕ) → Sized e → event_of (record_of e ++ t) ≡ e
unfolding record_of
fields_back e t z =
    let j = bytes 8 e.job in
    let k = bytes 8 e.time in
    let a : (j ++ k) ++ t ≡ j ++ (k ++ t) = append_assoc j k t in
    let p : take 8 (j ++ (k ++ t)) ≡ j = take_at j (k ++ t) 8 (length-bytes 8 e.job) in
    let q : drop 8 (j ++ (k ++ t)) ≡ k ++ t = drop_at j (k ++ t) 8 (length-bytes 8 e.job) in
    let r : take 8 (k ++ t) ≡ k = take_at k t 8 (length-bytes 8 e.time) in
    rw (a, p, q, r, number_of-bytes 8 e.job z.job, number_of-bytes 8 e.time z.time)

-- an event that is written and read back is the same
pub written_read : (e : Event) (t : List ℕ) → Ruled e → Sized e → read_record (record_of e ++ t) ≡ R.Event e
unfolding record_of
written_read e t r z =
    let b = fields_back e t z in
    let l : 20 ≤ length (record_of e ++ t) = rw (length-append, record_length e) (omega arith) in
    let m : Marked (record_of e ++ t) = record { first = refl; second = refl } in
    sym (reads_only (whole l m (rw b r))) ∙ ap R.Event b

pub write_then_read : (e : Event) (s : List ℕ) → Ruled e → Sized e → 20 ≤ length s → read_record (after_write e s) ≡ R.Event e
write_then_read e s r z h = rw (← (writes_only {e = e} {s = s} (stored r h)).1) (written_read e (drop 20 s) r z)

-- the first n bytes spell a number whose n bytes they are
bytes_back : (n : ℕ) (s : List ℕ) → n ≤ length s → AreBytes s → bytes n (number (take n s)) ≡ take n s
bytes_back n s h f = rw (length-take-le n s h) at (bytes_of_number (take n s) (take-bytes n s f))

-- the record of the event that the bytes spell is those bytes
pub record_back : (s : List ℕ) → 20 ≤ length s → Marked s → AreBytes s → record_of (event_of s) ≡ take 20 s
unfolding record_of
record_back [] h m f = absurd (omega arith)
record_back (a ∷ []) h m f = absurd (omega arith)
record_back (a ∷ b ∷ []) h m f = absurd (omega arith)
record_back (a ∷ b ∷ c ∷ []) h m f = absurd (omega arith)
record_back (a ∷ b ∷ c ∷ d ∷ s) h m f =
    let g : AreBytes s = drop-bytes 4 (a ∷ b ∷ c ∷ d ∷ s) f in
    let j = bytes_back 8 s (omega arith) g in
    let t = bytes_back 8 (drop 8 s) (rw length-drop (omega arith)) (drop-bytes 8 s g) in
    rw (m.first, m.second, j, t, take-add 8 8 s)

-- a record that reads, written again, is the same 20 bytes
pub read_written : (s : List ℕ) (e : Event) → AreBytes s → read_record s ≡ R.Event e → record_of e ≡ take 20 s
read_written s e f q =
    let w = event-of s e q in
    rw w.1.1.1 (record_back s w.0 w.1.0 f)

pub read_then_write : (s : List ℕ) (e : Event) → AreBytes s → read_record s ≡ R.Event e → after_write e s ≡ s
read_then_write s e f q =
    let w = event-of s e q in
    let r : Ruled e = rw w.1.1.1 w.1.1.0 in
    sym (writes_only {e = e} {s = s} (stored r w.0)).1 ∙ ap (λ (x : List ℕ). x ++ drop 20 s) (read_written s e f q) ∙ take-append-drop 20 s
