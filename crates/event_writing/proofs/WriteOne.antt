-- Writing one record: the computed answer and slice agree with the rules, both ways, and the stores of the code make up the record.
use Prim.Native.Nat.{ℕ, suc, ◌+◌, ◌≤◌, ◌<◌}
use mathlib.Core.Path.{◌≡◌, refl, sym, ap, ◌∙◌}
use mathlib.Core.Bool.{Bool, true, false, cond}
use mathlib.Core.List.{List, ◌++◌, append-nil, append_assoc}
use mathlib.Core.Logic.{◌↔◌}
use native.Mathlib.Omega.{arith}
use borrow.Rule.Slice.PartMut.{put_mid, same_len_mid}
use borrow.Author.Tests.{ltb-true, ltb-false, lt-ltb, le-ltb}
use lib.Dec.{ltb, eqb}
use lib.ListN.{length, take, drop, length-drop, length-append, drop_of_length-le}
use lib.Seq.{take_at, drop_at, drop-drop, drop-append-add, length-take-le}
use Rattle.number_writing.specs.Bytes.{bytes, wrote}
use Rattle.number_writing.proofs.Places.{length-bytes}
use Rattle.number_writing.proofs.Trips.{wrote_is}
use Rattle.event_reading.specs.declared.Event.{Event}
use Rattle.event_writing.specs.Answer.{Writing}
use Rattle.event_writing.specs.Answer as W
use Rattle.event_reading.specs.Event.{Zeroed, Ruled, Judged, unknown, stray, sound}
use Rattle.event_writing.specs.Writing.{head_of, record_of, write_fault, wrote_record, after_write, Writes, broken_7, broken_8, cramped, stored}
use Rattle.event_writing.specs.Writing.{written_said}
use Rattle.event_reading.proofs.Rules.{judged_only, judged_is}

-- a number that is put to a part of just 8 bytes
number_put : (s : List ℕ) (x : ℕ) → length s ≡ 8 → wrote 8 x s ≡ bytes 8 x
number_put s x h = rw (wrote_is 8 x s (rw h (omega arith)), drop_of_length-le s {i = 8} (rw h (omega arith)), append-nil)

part_of_8 : (at : ℕ) (s : List ℕ) → at + 8 ≤ length s → length (take 8 (drop at s)) ≡ 8
part_of_8 at s h = length-take-le 8 (drop at s) (rw length-drop (omega arith))

-- the head, the job at 4 and the time at 12 make the record
record_is : (e : Event) (s a b d : List ℕ)
    → a ≡ head_of e.kind e.task ++ drop 4 s
    → b ≡ take 4 a ++ (bytes 8 e.job ++ drop 12 a)
    → d ≡ take 12 b ++ (bytes 8 e.time ++ drop 20 b)
    → d ≡ record_of e ++ drop 20 s
unfolding record_of
record_is e s a b d p q r =
    let j = bytes 8 e.job in
    let t = drop 8 (drop 4 s) in
    let past : drop 16 (j ++ t) ≡ drop 8 t = rw (length-bytes 8 e.job) at (drop-append-add j t 8) in
    rw (r, q, p, take_at j t 8 (length-bytes 8 e.job), past, drop-drop 8 4 s, drop-drop 8 12 s, append_assoc j (bytes 8 e.time) (drop 20 s))

-- the three parts as they are stored one after the other: the head, and each number to a part of 8 bytes
pub record_stored : (e : Event) (s h j t : List ℕ) → 20 ≤ length s
    → h ≡ head_of e.kind e.task
    → j ≡ wrote 8 e.job (take 8 (drop 4 (h ++ drop 4 s)))
    → t ≡ wrote 8 e.time (take 8 (drop 12 (put_mid 4 8 (h ++ drop 4 s) j)))
    → put_mid 12 8 (put_mid 4 8 (h ++ drop 4 s) j) t ≡ record_of e ++ drop 20 s
record_stored e s h j t room p q r =
    let a = h ++ drop 4 s in
    let b = put_mid 4 8 a j in
    let la : length a ≡ length s = rw p (omega (arith, length-drop 4 s)) in
    let lj : length (take 8 (drop 4 a)) ≡ 8 = part_of_8 4 a (omega arith) in
    let q' : j ≡ bytes 8 e.job = q ∙ number_put (take 8 (drop 4 a)) e.job lj in
    let lb : length b ≡ length s = same_len_mid 4 8 a j (ap length q' ∙ length-bytes 8 e.job ∙ sym lj) ∙ la in
    let r' : t ≡ bytes 8 e.time = r ∙ number_put (take 8 (drop 12 b)) e.time (part_of_8 12 b (omega arith)) in
    record_is e s a b _ (ap (λ (l : List ℕ). l ++ drop 4 s) p) (rw (q', drop-drop 8 4 a)) (rw (r', drop-drop 8 12 b))

-- what a rule says is the computed answer and slice
pub writes_only : {e : Event} {s t : List ℕ} {r : Writing} → Writes e s r t → (r ≡ wrote_record e s) × (t ≡ after_write e s)
unfolding wrote_record after_write write_fault
writes_only {e} (broken_7 p) = rw (← judged_only {e = e} (unknown p)) (refl, refl)
writes_only {e} (broken_8 p z) = rw (← judged_only {e = e} (stray p z)) (refl, refl)
writes_only {e} (cramped r p) = rw (← judged_only {e = e} (sound r), lt-ltb _ _ p) (refl, refl)
writes_only {e} (stored r p) = rw (← judged_only {e = e} (sound r), le-ltb _ _ p) (refl, refl)

abbrev answer : ℕ → Bool → ℕ
answer n b = cond (eqb n 0) (cond b 14 0) n

-- and every event and slice has its rule
pub writes_is : (e : Event) (s : List ℕ) → Writes e s (wrote_record e s) (after_write e s)
unfolding wrote_record after_write write_fault
writes_is e s = go (judged_is e) (ltb (length s) 20) refl
  where
    go : {n : ℕ} → Judged e n → (b : Bool) → ltb (length s) 20 ≡ b
        → Writes e s (cond (eqb (answer n b) 0) W.Whole (W.Refused (answer n b))) (cond (eqb (answer n b) 0) (record_of e ++ drop 20 s) s)
    go (unknown p) b q = broken_7 p
    go (stray p z) b q = broken_8 p z
    go (sound r) true q = cramped r (ltb-true _ _ q)
    go (sound r) false q = stored r (ltb-false _ _ q)

-- an event's own refusal
pub broken_is : {e : Event} {n : ℕ} (s : List ℕ) → Judged e n → (n ≡ 0 → ⊥) → Writes e s (W.Refused n) s
broken_is s (unknown p) n = broken_7 p
broken_is s (stray p z) n = broken_8 p z
broken_is s (sound r) n = absurd (n refl)

-- writing gives an answer and a slice exactly when their rule holds
pub writes_exactly : (e : Event) (s t : List ℕ) (r : Writing) → (wrote_record e s ≡ r) × (after_write e s ≡ t) ↔ Writes e s r t
writes_exactly e s t r = (λ q. rw (q.0, q.1) at (writes_is e s), λ h. (sym (writes_only h).0, sym (writes_only h).1))

number-refused : (r : Writing) (n : ℕ) → (written_said r).number ≡ suc n → r ≡ W.Refused (suc n)
number-refused W.Whole n q = absurd (omega arith)
number-refused (W.Refused m) n q = ap W.Refused q

-- a refusal's number tells its rule, and the rule its number
told : (e : Event) (s : List ℕ) (n : ℕ) → (written_said (wrote_record e s)).number ≡ suc n → Writes e s (W.Refused (suc n)) (after_write e s)
told e s n q = rw (number-refused (wrote_record e s) n q) at (writes_is e s)

tells : {e : Event} {s t : List ℕ} {n : ℕ} → Writes e s (W.Refused n) t → (written_said (wrote_record e s)).number ≡ n
tells h = ap (λ (r : Writing). (written_said r).number) (sym (writes_only h).0)

broken_7_of : {e : Event} {s t : List ℕ} → Writes e s (W.Refused 7) t → 2 < e.kind
broken_7_of (broken_7 p) = p

broken_8_of : {e : Event} {s t : List ℕ} → Writes e s (W.Refused 8) t → (e.kind ≤ 2) × (Zeroed e → ⊥)
broken_8_of (broken_8 p z) = (p, z)

cramped_of : {e : Event} {s t : List ℕ} → Writes e s (W.Refused 14) t → Ruled e × (length s < 20)
cramped_of (cramped r p) = (r, p)

stored_of : {e : Event} {s t : List ℕ} → Writes e s W.Whole t → Ruled e × (20 ≤ length s)
stored_of (stored r p) = (r, p)

-- 7 and 8 exactly when the event breaks its own rules
pub write_7 : (e : Event) (s : List ℕ) → (written_said (wrote_record e s)).number ≡ 7 ↔ 2 < e.kind
write_7 e s = (λ q. broken_7_of (told e s 6 q), λ p. tells (broken_7 p))

pub write_8 : (e : Event) (s : List ℕ) → (written_said (wrote_record e s)).number ≡ 8 ↔ (e.kind ≤ 2) × (Zeroed e → ⊥)
write_8 e s = (λ q. broken_8_of (told e s 7 q), λ p. tells (broken_8 p.0 p.1))

-- 14 exactly when the event obeys them and fewer than 20 bytes are lent
pub write_14 : (e : Event) (s : List ℕ) → (written_said (wrote_record e s)).number ≡ 14 ↔ Ruled e × (length s < 20)
write_14 e s = (λ q. cramped_of (told e s 13 q), λ p. tells (cramped p.0 p.1))

-- the record is written exactly when the event obeys them and there is room
pub write_whole : (e : Event) (s : List ℕ) → wrote_record e s ≡ W.Whole ↔ Ruled e × (20 ≤ length s)
write_whole e s = (λ q. stored_of (rw q at (writes_is e s)), λ p. sym (writes_only (stored p.0 p.1)).0)

refused-kept : {e : Event} {s t : List ℕ} {n : ℕ} → Writes e s (W.Refused n) t → t ≡ s
refused-kept (broken_7 p) = refl
refused-kept (broken_8 p z) = refl
refused-kept (cramped r p) = refl

-- a refused writing leaves the slice
pub refused_leaves : (e : Event) (s : List ℕ) (n : ℕ) → wrote_record e s ≡ W.Refused n → after_write e s ≡ s
refused_leaves e s n q = refused-kept (rw q at (writes_is e s))

pub record_length : (e : Event) → length (record_of e) ≡ 20
unfolding record_of
record_length e = simp (length-append, length-bytes)

-- bytes past the 20 stay in every case
pub past_stays : (e : Event) (s : List ℕ) → drop 20 (after_write e s) ≡ drop 20 s
past_stays e s = go (writes_is e s)
  where
    go : {r : Writing} {t : List ℕ} → Writes e s r t → drop 20 t ≡ drop 20 s
    go (broken_7 p) = refl
    go (broken_8 p z) = refl
    go (cramped r p) = refl
    go (stored r p) = drop_at (record_of e) (drop 20 s) 20 (record_length e)

-- and there is one answer
pub write_single : (e : Event) (s : List ℕ) {t u : List ℕ} {a b : Writing} → Writes e s a t → Writes e s b u → (a ≡ b) × (t ≡ u)
write_single e s p q = ((writes_only p).0 ∙ sym (writes_only q).0, (writes_only p).1 ∙ sym (writes_only q).1)
