-- What the rest of a log says: how far the reading came, and the refusal of the record that ended it, since none reads at its front.
use Prim.Native.Nat.{ℕ, ◌-◌, ◌*◌, ◌≤◌, ◌<◌}
use mathlib.Core.Path.{◌≡◌, refl}
use mathlib.Core.List.{List}
use mathlib.Core.Logic.{◌↔◌}
use native.Mathlib.Omega.{arith}
use lib.ListN.{length, length-drop}
use Rattle.event_reading.specs.declared.Event.{Event}
use Rattle.event_reading.specs.Reading.{Reading}
use Rattle.event_reading.specs.Reading as R
use Rattle.event_reading.specs.Record.{event_of, read_record, Reads, ended, short, unmarked, unknown, stray, whole}
use Rattle.event_reading.specs.Answer.{read_said}
use Rattle.event_logs.specs.Log.{readable, rest_of}
use Rattle.event_reading.proofs.ReadOne.{reads_is, read_end}
use Rattle.event_logs.proofs.Records.{readable-fits}
use Rattle.event_logs.proofs.Logs.{stops_at}

-- its first byte is at the offset where the reading ended
pub rest_offset : (s : List ℕ) → length s - length (rest_of s) ≡ 20 * readable s
rest_offset s = rw length-drop (omega (arith, readable-fits s))

-- it is empty exactly when all was read
pub rest_empty : (s : List ℕ) → length (rest_of s) ≡ 0 ↔ 20 * readable s ≡ length s
rest_empty s = (λ q. omega (arith, readable-fits s, rw length-drop at q), λ q. rw length-drop (omega arith))

-- which is when reading it is the end
pub rest_end : (s : List ℕ) → read_record (rest_of s) ≡ R.End ↔ 20 * readable s ≡ length s
rest_end s = (λ q. (rest_empty s).0 ((read_end (rest_of s)).0 q), λ q. (read_end (rest_of s)).1 ((rest_empty s).1 q))

-- it never reads as an event
pub rest_silent : (s : List ℕ) (e : Event) → read_record (rest_of s) ≡ R.Event e → ⊥
rest_silent s = (stops_at s).silent

-- so the number of its reading is at most 8
pub rest_most : (s : List ℕ) → (read_said (read_record (rest_of s))).number ≤ 8
rest_most s = go (reads_is (rest_of s))
  where
    go : {r : Reading} → Reads (rest_of s) r → (read_said r).number ≤ 8
    go (ended p) = omega arith
    go (short p l) = omega arith
    go (unmarked p m) = omega arith
    go (unknown p m k) = omega arith
    go (stray p m k z) = omega arith
    go (whole p m r) = omega arith

-- where it is not empty, reading it gives the refusal 5, 6, 7 or 8 that ended the reading
pub rest_refused : (s : List ℕ) → 0 < length (rest_of s)
    → (5 ≤ (read_said (read_record (rest_of s))).number) × ((read_said (read_record (rest_of s))).number ≤ 8)
rest_refused s h = go (reads_is (rest_of s)) (rest_silent s)
  where
    go : {r : Reading} → Reads (rest_of s) r → ((e : Event) → r ≡ R.Event e → ⊥) → (5 ≤ (read_said r).number) × ((read_said r).number ≤ 8)
    go (ended p) n = absurd (omega arith)
    go (short p l) n = omega arith
    go (unmarked p m) n = omega arith
    go (unknown p m k) n = omega arith
    go (stray p m k z) n = omega arith
    go (whole p m r) n = absurd (n (event_of (rest_of s)) refl)
