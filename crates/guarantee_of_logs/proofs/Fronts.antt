-- The first 20 n bytes of a log read whole, as its first n events: a record reads by its own 20 bytes, and those behind it do not matter.
use Prim.Native.Nat.{ℕ, zero, suc, ◌+◌, ◌*◌, ◌≤◌, ◌<◌}
use mathlib.Core.Path.{◌≡◌, sym, ap, ◌∙◌}
use mathlib.Core.List.{List, ◌∷◌, ◌++◌}
use native.Mathlib.Omega.{arith}
use borrow.Author.Tests.{ne_eqb, le-ltb}
use lib.ListN.{length, get_or, take, drop, length-append, length-drop, take-append-drop, get_or-append}
use lib.Seq.{take-add, take-append-le, drop-append-le, drop_at, length-take-le}
use Rattle.event_reading.specs.declared.Event.{Event}
use Rattle.event_reading.specs.Reading as R
use Rattle.event_reading.specs.Record.{marks, event_of, read_record}
use Rattle.event_logs.specs.Log.{readable, rest_of, events_of}
use Rattle.event_logs.proofs.Records.{readable-fits}
use Rattle.event_logs.proofs.Rests.{rest_end}
use Rattle.event_logs.proofs.Logs.{goes_at, events_more, events_length, events_empty}

module _ (p q : List ℕ) (h : 20 ≤ length p) where
  byte_front : (k : ℕ) → k < 20 → get_or (p ++ q) k 0 ≡ get_or p k 0
  byte_front k l = get_or-append p q 0 k (omega arith)

  part_front : (at : ℕ) → at + 8 ≤ 20 → take 8 (drop at (p ++ q)) ≡ take 8 (drop at p)
  part_front at l =
      ap (take 8) (drop-append-le at p q (omega arith)) ∙ take-append-le 8 (drop at p) q (rw length-drop (omega arith))

  read_front : read_record (p ++ q) ≡ read_record p
  unfolding read_record marks
  read_front =
      rw (
        ne_eqb (length (p ++ q)) 0 (λ z. omega (arith, length-append p q)),
        ne_eqb (length p) 0 (λ z. omega arith),
        le-ltb (length (p ++ q)) 20 (rw (length-append p q) (omega arith)),
        le-ltb (length p) 20 h,
        byte_front 0 (omega arith),
        byte_front 1 (omega arith),
        byte_front 2 (omega arith),
        byte_front 3 (omega arith),
        part_front 4 (omega arith),
        part_front 12 (omega arith),
      )

pub front_events : (n : ℕ) (s : List ℕ) → n ≤ readable s → events_of (take (20 * n) s) ≡ take n (events_of s)
unfolding read_record
front_events zero s h = events_empty
front_events (suc n) s h =
    let g = goes_at 0 s (omega arith) in
    let f = take 20 s in
    let b = take (20 * n) (drop 20 s) in
    let l : length f ≡ 20 = length-take-le 20 s g.long in
    let c : 20 * suc n ≡ 20 + 20 * n = omega arith in
    let r : read_record (f ++ b) ≡ R.Event (event_of s) =
    read_front f b (omega arith) ∙ sym (read_front f (drop 20 s) (omega arith)) ∙ ap read_record (take-append-drop 20 s) ∙ g.reads in
    ap (λ (k : ℕ). events_of (take k s)) c ∙ ap events_of (take-add 20 (20 * n) s) ∙ events_more (f ++ b) (event_of s) r
    ∙ ap (λ (es : List Event). event_of s ∷ es) (ap events_of (drop_at f b 20 l) ∙ front_events n (drop 20 s) (omega (arith, g.counts)))
    ∙ sym (ap (take (suc n)) (events_more s (event_of s) g.reads))

pub front_whole : (n : ℕ) (s : List ℕ) → n ≤ readable s → read_record (rest_of (take (20 * n) s)) ≡ R.End
front_whole n s h =
    let x = take (20 * n) s in
    let l : length x ≡ 20 * n = length-take-le (20 * n) s (omega (arith, readable-fits s)) in
    let k : readable x ≡ n = sym (events_length x) ∙ ap length (front_events n s h) ∙ length-take-le n (events_of s) (rw (events_length s) h) in
    (rest_end x).1 (omega arith)
