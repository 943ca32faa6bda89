-- Two logs one behind the other: if the first is read to its end, their events and their endings follow each other, and if it stops at a whole record, the
-- second is not looked at. A record reads by its own 20 bytes, and those behind it do not matter; by induction on the records.
use Prim.Native.Nat.{ℕ, ◌+◌, ◌*◌, ◌≤◌, ◌<◌}
use mathlib.Core.Path.{◌≡◌, refl, sym, ap, ◌∙◌}
use mathlib.Core.List.{List, [], ◌∷◌, ◌++◌}
use native.Mathlib.Omega.{arith}
use borrow.Author.Tests.{ne_eqb, le-ltb}
use lib.ListN.{length, get_or, take, drop, length-append, length-drop, get_or-append}
use lib.Seq.{take-append-le, drop-append-le, drop-drop, drop-append_seam}
use Rattle.event_reading.specs.declared.Event.{Event}
use Rattle.event_reading.specs.Reading.{Reading}
use Rattle.event_reading.specs.Reading as R
use Rattle.event_reading.specs.Record.{marks, event_of, read_record}
use Rattle.event_logs.specs.Log.{readable, rest_of, events_of}
use Rattle.event_logs.specs.Ending.{ended_by, ending_of}
use Rattle.event_logs.proofs.Records.{Goes, by_records}
use Rattle.event_logs.proofs.Logs.{events_more, events_none, events_empty, events_length}
use Rattle.tally_histories.specs.Chunks.{shifted}

-- ---- one record

module _ (p q : List ℕ) (h : 20 ≤ length p) where
  byte_front : (k : ℕ) → k < 20 → get_or (p ++ q) k 0 ≡ get_or p k 0
  byte_front k l = get_or-append p q 0 k (omega arith)

  part_front : (at : ℕ) → at + 8 ≤ 20 → take 8 (drop at (p ++ q)) ≡ take 8 (drop at p)
  part_front at l =
      ap (take 8) (drop-append-le at p q (omega arith)) ∙ take-append-le 8 (drop at p) q (rw length-drop (omega arith))

  pub read_front : read_record (p ++ q) ≡ read_record p
  unfolding read_record marks
  read_front =
      rw (
        ne_eqb (length (p ++ q)) 0 (λ z. omega (arith, length-append p q)),
        ne_eqb (length p) 0 (λ z. omega arith),
        le-ltb (length (p ++ q)) 20 (rw (length-append p q) (omega arith)),
        le-ltb (length p) 20 h,
        byte_front 0 (omega arith),
        byte_front 1 (omega arith),
        byte_front 2 (omega arith),
        byte_front 3 (omega arith),
        part_front 4 (omega arith),
        part_front 12 (omega arith),
      )

-- a list of length 0 is empty
no_bytes : (a : List ℕ) → length a ≡ 0 → a ≡ []
no_bytes [] e = refl
no_bytes (x ∷ a) e = absurd (omega (arith, e))

module _ (b : List ℕ) where
  -- what stands behind the first record
  next_front : (a : List ℕ) → 20 ≤ length a → drop 20 (a ++ b) ≡ drop 20 a ++ b
  next_front a h = drop-append-le 20 a b h

  -- the events of a log, by its first record
  events_front : (a : List ℕ) → Goes a → events_of (a ++ b) ≡ event_of a ∷ events_of (drop 20 a ++ b)
  events_front a g =
      events_more (a ++ b) (event_of a) (read_front a b g.long ∙ g.reads)
      ∙ ap (λ (l : List ℕ). event_of a ∷ events_of l) (next_front a g.long)

  -- ---- a first log that is read to its end

  pub events_append : (a : List ℕ) → 20 * readable a ≡ length a → events_of (a ++ b) ≡ events_of a ++ events_of b
  events_append =
      by_records (λ a. 20 * readable a ≡ length a → events_of (a ++ b) ≡ events_of a ++ events_of b)
      (λ a t w. let z : a ≡ [] = no_bytes a (omega (arith, w, t.none)) in rw (z, events_empty))
      (λ a g k w.
      events_front a g
      ∙ ap (λ (es : List Event). event_of a ∷ es) (k (rw length-drop (omega (arith, w, g.counts))))
      ∙ sym (ap (λ (es : List Event). es ++ events_of b) (events_more a (event_of a) g.reads)))

  module _ (a : List ℕ) (w : 20 * readable a ≡ length a) where
    readable-append : readable (a ++ b) ≡ readable a + readable b
    readable-append =
        sym (events_length (a ++ b)) ∙ ap length (events_append a w) ∙ length-append (events_of a) (events_of b)
        ∙ rw (events_length a, events_length b)

    rest_append : rest_of (a ++ b) ≡ rest_of b
    rest_append =
        let n : 20 * readable (a ++ b) ≡ length a + 20 * readable b = omega (arith, readable-append, w) in
        rw n (sym (drop-drop (20 * readable b) (length a) (a ++ b)) ∙ ap (drop (20 * readable b)) (drop-append_seam a b))

    pub ending_append : ending_of (a ++ b) ≡ shifted (length a) (ending_of b)
    ending_append =
        let n : 20 * readable (a ++ b) ≡ length a + 20 * readable b = omega (arith, readable-append, w) in
        ap (λ (l : List ℕ). ended_by (read_record l) (20 * readable (a ++ b))) rest_append
        ∙ rw n (go (read_record (rest_of b)))
      where
        go : (r : Reading) → ended_by r (length a + 20 * readable b) ≡ shifted (length a) (ended_by r (20 * readable b))
        go (R.Event e) = refl
        go R.End = refl
        go (R.Refused k) = refl

  -- ---- a first log that stops at a whole record

  pub events_stopped : (a : List ℕ) → 20 * readable a + 20 ≤ length a → events_of (a ++ b) ≡ events_of a
  events_stopped =
      by_records (λ a. 20 * readable a + 20 ≤ length a → events_of (a ++ b) ≡ events_of a)
      (λ a t w.
      let l : 20 ≤ length a = omega (arith, w) in
      events_none (a ++ b) (λ e q. t.silent e (sym (read_front a b l) ∙ q)) ∙ sym (events_none a t.silent))
      (λ a g k w.
      events_front a g
      ∙ ap (λ (es : List Event). event_of a ∷ es) (k (rw length-drop (omega (arith, w, g.counts))))
      ∙ sym (events_more a (event_of a) g.reads))

  pub ending_stopped : (a : List ℕ) → 20 * readable a + 20 ≤ length a → ending_of (a ++ b) ≡ ending_of a
  ending_stopped a w =
      let n : readable (a ++ b) ≡ readable a = sym (events_length (a ++ b)) ∙ ap length (events_stopped a w) ∙ events_length a in
      rw n
      (ap (λ (r : Reading). ended_by r (20 * readable a))
      (ap read_record (drop-append-le (20 * readable a) a b (omega (arith, w))) ∙ read_front (rest_of a) b (rw length-drop (omega (arith, w)))))
