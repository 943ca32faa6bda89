-- Reading one record: the computed tests agree with the rules, both ways, by cases on each test in its order.
use Prim.Native.Nat.{ℕ, suc, ◌≤◌, ◌<◌}
use mathlib.Core.Path.{◌≡◌, refl, sym, ap}
use mathlib.Core.Bool.{Bool, true, false, cond}
use mathlib.Core.List.{List, [], ◌∷◌}
use mathlib.Core.Logic.{◌↔◌}
use native.Mathlib.Omega.{arith}
use borrow.Author.Tests.{ltb-true, ltb-false, eqb-true, eqb-false, lt-ltb, le-ltb, ne_eqb}
use lib.Dec.{ltb, eqb}
use lib.ListN.{length, get_or}
use Rattle.laws.proofs.Answers.{exactly}
use Rattle.laws.proofs.Tests.{impossible, test_false, fact_not}
use Rattle.event_reading.specs.declared.Event.{Event}
use Rattle.event_reading.specs.Reading.{Reading}
use Rattle.event_reading.specs.Reading as R
use Rattle.event_reading.specs.Event as E
use Rattle.event_reading.specs.Event.{Zeroed, Ruled, Judged, fault_of}
use Rattle.event_reading.specs.Record.{Marked, marks, event_of, heard, read_record, Reads, ended, short, unmarked, unknown, stray, whole}
use Rattle.event_reading.specs.Answer.{read_said}
use Rattle.event_reading.proofs.Rules.{judged_only, judged_is}

marks_marked : (s : List ℕ) → marks s ≡ true → Marked s
unfolding marks
marks_marked s t = go (eqb (get_or s 0 0) 0x45) refl (eqb (get_or s 1 0) 0x56) refl t
  where
    go : (a : Bool) → eqb (get_or s 0 0) 0x45 ≡ a → (b : Bool) → eqb (get_or s 1 0) 0x56 ≡ b → cond a b false ≡ true → Marked s
    go true p true q r = record { first = eqb-true _ _ p; second = eqb-true _ _ q }
    go true p false q r = impossible cc
    go false p b q r = impossible cc

marked_marks : (s : List ℕ) → Marked s → marks s ≡ true
unfolding marks
marked_marks s m = rw (m.first, m.second)

-- what a rule says is the computed answer
pub reads_only : {s : List ℕ} {r : Reading} → Reads s r → r ≡ read_record s
unfolding read_record
reads_only {s} (ended p) = rw p
reads_only {s} (short p q) = rw (ne_eqb (length s) 0 (λ z. omega arith), lt-ltb _ _ q)
reads_only {s} (unmarked p m) = rw (ne_eqb (length s) 0 (λ z. omega arith), le-ltb _ _ p, test_false (marks s) (marks_marked s) m)
reads_only {s} (unknown p m k) =
    rw (ne_eqb (length s) 0 (λ z. omega arith), le-ltb _ _ p, marked_marks s m, ← judged_only {e = event_of s} (E.unknown k))
reads_only {s} (stray p m k z) =
    rw (ne_eqb (length s) 0 (λ z. omega arith), le-ltb _ _ p, marked_marks s m, ← judged_only {e = event_of s} (E.stray k z))
reads_only {s} (whole p m r) =
    rw (ne_eqb (length s) 0 (λ z. omega arith), le-ltb _ _ p, marked_marks s m, ← judged_only {e = event_of s} (E.sound r))

-- and every slice has its rule
pub reads_is : (s : List ℕ) → Reads s (read_record s)
unfolding read_record
reads_is s = go (eqb (length s) 0) refl (ltb (length s) 20) refl (marks s) refl
  where
    judged : {n : ℕ} → 20 ≤ length s → Marked s → Judged (event_of s) n → Reads s (heard (event_of s) n)
    judged p m (E.unknown k) = unknown p m k
    judged p m (E.stray k z) = stray p m k z
    judged p m (E.sound r) = whole p m r

    go : (a : Bool) → eqb (length s) 0 ≡ a → (b : Bool) → ltb (length s) 20 ≡ b → (d : Bool) → marks s ≡ d
        → Reads s (cond a R.End (cond b (R.Refused 5) (cond d (heard (event_of s) (fault_of (event_of s))) (R.Refused 6))))
    go true p b q d r = ended (eqb-true _ _ p)
    go false p true q d r = short (omega (arith, eqb-false (length s) 0 p)) (ltb-true _ _ q)
    go false p false q true r = judged (ltb-false _ _ q) (marks_marked s r) (judged_is (event_of s))
    go false p false q false r = unmarked (ltb-false _ _ q) (fact_not (marked_marks s) r)

-- behind a right mark the event's own number decides
heard_is : (s : List ℕ) → 20 ≤ length s → Marked s → read_record s ≡ heard (event_of s) (fault_of (event_of s))
unfolding read_record
heard_is s p m = rw (ne_eqb (length s) 0 (λ z. omega arith), le-ltb _ _ p, marked_marks s m)

pub refused_is : (s : List ℕ) (e : Event) (n : ℕ) → 20 ≤ length s → Marked s → e ≡ event_of s → n ≡ fault_of e → (n ≡ 0 → ⊥) → R.Refused n ≡ read_record s
refused_is s e n p m q f z = rw (heard_is s p m, ← q, ← f, ne_eqb n 0 z)

pub event_is : (s : List ℕ) (e : Event) (n : ℕ) → 20 ≤ length s → Marked s → e ≡ event_of s → n ≡ fault_of e → n ≡ 0 → R.Event e ≡ read_record s
event_is s e n p m q f z = rw (heard_is s p m, ← q, ← f, z)

-- reading gives an answer exactly when its rule holds
pub reads_exactly : (s : List ℕ) (r : Reading) → read_record s ≡ r ↔ Reads s r
reads_exactly s = exactly (Reads s) (reads_is s) (λ r h. reads_only h)

-- a number other than 0 is a refusal's, and an event is handed over by one case alone
number-refused : (r : Reading) (n : ℕ) → (read_said r).number ≡ suc n → r ≡ R.Refused (suc n)
number-refused (R.Event e) n q = absurd (omega arith)
number-refused R.End n q = absurd (omega arith)
number-refused (R.Refused m) n q = ap R.Refused q

handed_event : (r : Reading) (e : Event) → (read_said r).values ≡ e ∷ [] → r ≡ R.Event e
handed_event (R.Event x) e q = ap R.Event (cc)
handed_event R.End e q = impossible cc
handed_event (R.Refused m) e q = impossible cc

number_is : (s : List ℕ) (n : ℕ) → (read_said (read_record s)).number ≡ suc n ↔ Reads s (R.Refused (suc n))
number_is s n = (
  λ q. (reads_exactly s (R.Refused (suc n))).0 (number-refused (read_record s) n q),
  λ h. ap (λ (r : Reading). (read_said r).number) (sym (reads_only h)),
)

short_of : {s : List ℕ} → Reads s (R.Refused 5) → (0 < length s) × (length s < 20)
short_of (short p l) = (p, l)

unmarked_of : {s : List ℕ} → Reads s (R.Refused 6) → (20 ≤ length s) × (Marked s → ⊥)
unmarked_of (unmarked p m) = (p, m)

unknown_of : {s : List ℕ} → Reads s (R.Refused 7) → (20 ≤ length s) × (Marked s × (2 < (event_of s).kind))
unknown_of (unknown p m k) = (p, (m, k))

stray_of : {s : List ℕ} → Reads s (R.Refused 8) → (20 ≤ length s) × (Marked s × (((event_of s).kind ≤ 2) × (Zeroed (event_of s) → ⊥)))
stray_of (stray p m k z) = (p, (m, (k, z)))

ended_of : {s : List ℕ} → Reads s R.End → length s ≡ 0
ended_of (ended p) = p

whole_of : {s : List ℕ} {e : Event} → Reads s (R.Event e) → (20 ≤ length s) × (Marked s × (Ruled (event_of s) × (e ≡ event_of s)))
whole_of (whole p m r) = (p, (m, (r, refl)))

pub event-of : (s : List ℕ) (e : Event) → read_record s ≡ R.Event e → (20 ≤ length s) × (Marked s × (Ruled (event_of s) × (e ≡ event_of s)))
event-of s e q = whole_of ((reads_exactly s (R.Event e)).0 q)

-- the end exactly when no bytes are left
pub read_end : (s : List ℕ) → read_record s ≡ R.End ↔ length s ≡ 0
read_end s = (λ q. ended_of ((reads_exactly s R.End).0 q), λ p. (reads_exactly s R.End).1 (ended p))

-- 5 exactly when there are 1 to 19 bytes
pub read_5 : (s : List ℕ) → (read_said (read_record s)).number ≡ 5 ↔ (0 < length s) × (length s < 20)
read_5 s = (λ q. short_of ((number_is s 4).0 q), λ p. (number_is s 4).1 (short p.0 p.1))

-- 6 exactly when there are 20 and the mark is wrong
pub read_6 : (s : List ℕ) → (read_said (read_record s)).number ≡ 6 ↔ (20 ≤ length s) × (Marked s → ⊥)
read_6 s = (λ q. unmarked_of ((number_is s 5).0 q), λ p. (number_is s 5).1 (unmarked p.0 p.1))

-- 7 exactly when, behind a right mark, the kind is above 2
pub read_7 : (s : List ℕ) → (read_said (read_record s)).number ≡ 7 ↔ (20 ≤ length s) × (Marked s × (2 < (event_of s).kind))
read_7 s = (λ q. unknown_of ((number_is s 6).0 q), λ p. (number_is s 6).1 (unknown p.0 p.1.0 p.1.1))

-- 8 exactly when, with a known kind, a field that has to be 0 is not
pub read_8 : (s : List ℕ)
    → (read_said (read_record s)).number ≡ 8 ↔ (20 ≤ length s) × (Marked s × (((event_of s).kind ≤ 2) × (Zeroed (event_of s) → ⊥)))
read_8 s = (λ q. stray_of ((number_is s 7).0 q), λ p. (number_is s 7).1 (stray p.0 p.1.0 p.1.1.0 p.1.1.1))

-- an event exactly when the mark is right and the event obeys the rules; it is the one that the bytes spell
pub read_event : (s : List ℕ) (e : Event)
    → (read_said (read_record s)).values ≡ e ∷ [] ↔ (20 ≤ length s) × (Marked s × (Ruled (event_of s) × (e ≡ event_of s)))
read_event s e = (
  λ q. event-of s e (handed_event (read_record s) e q),
  λ p. rw (← reads_only (whole p.0 p.1.0 p.1.1.0), p.1.1.1),
)
