-- Each record before the stop reads, the one at the stop does not, and the events of a log are those of its records: by induction on the records.
use Prim.Native.Nat.{ℕ, zero, suc, ◌+◌, ◌*◌, ◌<◌}
use mathlib.Core.Path.{◌≡◌, refl, ap, ◌∙◌}
use mathlib.Core.List.{List, [], ◌∷◌}
use mathlib.Core.Logic.{◌⊎◌, inl, inr}
use native.Mathlib.Decide.{dec_lt}
use native.Mathlib.Omega.{arith}
use lib.ListN.{get_or, drop, length}
use lib.Seq.{drop-drop}
use Rattle.laws.proofs.Tests.{impossible}
use Rattle.event_reading.specs.declared.Event.{Event}
use Rattle.event_reading.specs.Reading as R
use Rattle.event_reading.specs.Event.{fault_of}
use Rattle.event_reading.specs.Record.{event_of, read_record}
use Rattle.event_logs.specs.Log.{readable, read_at, rest_of, events_in, events_of}
use Rattle.event_reading.proofs.Rules.{judge_0}
use Rattle.event_reading.proofs.ReadOne.{event-of}
use Rattle.event_logs.proofs.Records.{Goes, Stops, front, goes_of, by_records}

-- a record that reads obeys the rules of event values
pub read_ruled : (s : List ℕ) (e : Event) → read_record s ≡ R.Event e → fault_of e ≡ 0
read_ruled s e q =
    let w = event-of s e q in
    (judge_0 e).1 (rw w.1.1.1 w.1.1.0)

-- record i + 1 of a log is record i of what stands behind the first
next_at : (s : List ℕ) (i : ℕ) → drop (20 * i) (drop 20 s) ≡ drop (20 * suc i) s
next_at s i = let e : 20 * suc i ≡ 20 + 20 * i = omega arith in rw (e, drop-drop (20 * i) 20 s)

-- every record before the stop stands at the front of a part that goes on
pub goes_at : (i : ℕ) (s : List ℕ) → i < readable s → Goes (drop (20 * i) s)
goes_at zero s h = go (front s)
  where
    go : Goes s ⊎ Stops s → Goes s
    go (inl g) = g
    go (inr t) = absurd (omega (arith, t.none))
goes_at (suc i) s h = go (front s) (λ l. goes_at i (drop 20 s) l)
  where
    go : Goes s ⊎ Stops s → (i < readable (drop 20 s) → Goes (drop (20 * i) (drop 20 s))) → Goes (drop (20 * suc i) s)
    go (inl g) f = rw (next_at s i) at (f (omega (arith, g.counts)))
    go (inr t) f = absurd (omega (arith, t.none))

-- so reading it gives its event
pub event_before : (s : List ℕ) (i : ℕ) → i < readable s → read_at s i ≡ R.Event (event_of (drop (20 * i) s))
event_before s i h = (goes_at i s h).reads

-- and the record at the stop does not read
pub stops_at : (s : List ℕ) → Stops (rest_of s)
stops_at =
    by_records (λ s. Stops (rest_of s)) (λ s t. rw t.none t)
    (λ s g h. rw g.counts (rw (next_at s (readable (drop 20 s))) at h))

-- the number of readable records is the only one with both
pub readable_only : (s : List ℕ) (n : ℕ) → ((i : ℕ) → i < n → (e : Event) × (read_at s i ≡ R.Event e))
    → ((e : Event) → read_at s n ≡ R.Event e → ⊥) → n ≡ readable s
readable_only s n before stop = go (dec_lt n (readable s)) (dec_lt (readable s) n)
  where
    go : Dec (n < readable s) → Dec (readable s < n) → n ≡ readable s
    go (yes l) d = absurd (stop (event_of (drop (20 * n) s)) (event_before s n l))
    go (no p) (yes l) = let w = before (readable s) l in absurd ((stops_at s).silent w.0 w.1)
    go (no p) (no q) = omega arith

-- the events of a log, by place
pub event_of_log : (s : List ℕ) (i : ℕ) (none : Event) → i < readable s → get_or (events_of s) i none ≡ event_of (drop (20 * i) s)
unfolding events_in
event_of_log s i none h = go (readable s) i s h
  where
    go : (n i : ℕ) (s : List ℕ) → i < n → get_or (events_in n s) i none ≡ event_of (drop (20 * i) s)
    go zero i s h = absurd (omega arith)
    go (suc n) zero s h = refl
    go (suc n) (suc i) s h = go n i (drop 20 s) (omega arith) ∙ ap event_of (next_at s i)

-- as many as the records that read
pub events_length : (s : List ℕ) → length (events_of s) ≡ readable s
unfolding events_in
events_length s = go (readable s) s
  where
    go : (n : ℕ) (s : List ℕ) → length (events_in n s) ≡ n
    go zero s = refl
    go (suc n) s = ap suc (go n (drop 20 s))

-- the events of a log, by what its front reads as
pub events_more : (s : List ℕ) (e : Event) → read_record s ≡ R.Event e → events_of s ≡ e ∷ events_of (drop 20 s)
unfolding events_in
events_more s e q =
    let g = goes_of s e q in
    let f : event_of s ≡ e = cc g.reads in
    rw (g.counts, f)

pub events_none : (s : List ℕ) → ((e : Event) → read_record s ≡ R.Event e → ⊥) → events_of s ≡ []
unfolding events_in
events_none s k = go (front s)
  where
    go : Goes s ⊎ Stops s → events_in (readable s) s ≡ []
    go (inl g) = absurd (k (event_of s) g.reads)
    go (inr f) = rw f.none

pub events_empty : events_of [] ≡ []
unfolding read_record
events_empty = events_none [] (λ e q. impossible cc)
