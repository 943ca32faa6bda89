-- No listing is longer than the room that is asked for: each line has a most, and there are no more lines than tasks and records.
use Prim.Native.Nat.{ℕ, zero, suc, ◌+◌, ◌*◌, ◌≤◌, ◌<◌}
use mathlib.Core.Path.{◌≡◌, refl}
use mathlib.Core.List.{List, [], ◌∷◌}
use native.Mathlib.Nat.{le_refl}
use native.Mathlib.Omega.{arith}
use borrow.Author.Tests.{ltb-false}
use lib.Dec.{ltb}
use lib.ListN.{length, length-append, length-drop}
use Rattle.laws.proofs.Tests.{by_test}
use Rattle.text_writing.proofs.Decimals.{decimal_short}
use Rattle.table_rules.specs.Answers.{Answer, Accepted, Refused}
use Rattle.table_rules.specs.declared.Table.{Table}
use Rattle.table_rules.specs.declared.Task.{Task}
use Rattle.table_rules.specs.Judging.{judged}
use Rattle.table_rules.specs.Rules.{Misses}
use Rattle.task_thresholds.specs.Thresholds.{w_of, h_of}
use Rattle.table_rules.proofs.Exactly.{judged_accepted}
use Rattle.table_rules.proofs.Ruling.{fault_none}
use Rattle.table_reading.specs.Table.{read_table}
use Rattle.table_reading.proofs.Given.{read_good}
use Rattle.bound_demand.specs.Above.{task_at}
use Rattle.bound_one.specs.Bound.{Bound}
use Rattle.bound_one.specs.Asked.{one_answer}
use Rattle.event_reading.specs.declared.Event.{Event}
use Rattle.event_reading.specs.Reading.{Reading}
use Rattle.event_reading.specs.Reading as R
use Rattle.event_reading.specs.Record.{read_record}
use Rattle.event_reading.specs.Answer.{read_said}
use Rattle.event_logs.specs.Log.{readable, rest_of, events_of}
use Rattle.event_logs.specs.Ending.{ended_by}
use Rattle.event_logs.proofs.Records.{readable-fits}
use Rattle.event_logs.proofs.Rests.{rest_most}
use Rattle.event_logs.proofs.Logs.{events_length}
use Rattle.task_records.specs.declared.Record.{Record}
use Rattle.task_records.specs.Window.{window_of}
use Rattle.task_soundness.specs.Counts.{open_of}
use Rattle.task_soundness.specs.Sound.{Sound}
use Rattle.state_rules.specs.declared.State.{State}
use Rattle.state_rules.specs.Sound.{limit, StateSound}
use Rattle.state_rules.specs.State.{record_at, fresh_state}
use Rattle.apply_events.specs.Answer.{Answer as Said}
use Rattle.apply_events.specs.Apply.{applied}
use Rattle.apply_events.proofs.Kept.{applied_sound}
use Rattle.listing_text.specs.TaskLines.{bound_text, task_line, last_line}
use Rattle.listing_text.specs.TableLines.{task_lines, last_lines}
use Rattle.listing_text.specs.EventLines.{answer_text, event_line}
use Rattle.listing_text.specs.RefusalLines.{refused_line}
use Rattle.apply_events.specs.Log.{state_after}
use Rattle.apply_events.proofs.After.{after_sound, after_count}
use Rattle.listing_text.specs.LogLines.{event_lines, stop_by, stop_text}
use Rattle.listing_text.specs.Listing.{table_listing, listed_by, listed, table_there, table_bytes, event_bytes, listing_of}
use Rattle.listing_text.proofs.Small.{refusal_small, w_digits, h_digits, task_ruled, bound_small, Small, applied_small, met_small, missed_small}
use Rattle.listing_text.proofs.Small.{broken_small, open_small, window_small, fresh_state_sound}

-- ---- each line

refused_most : (n p : ℕ) → n < 100 → p < 100 → length (refused_line n p) ≤ 23
refused_most n p h q = simp length-append (omega (arith, decimal_short 1 n h, decimal_short 1 p q))

bound_most : (b : Bound) → ((r : ℕ) → b ≡ Bound.At r → r < 10000000) → length (bound_text b) ≤ 14
bound_most (Bound.At r) h = omega (arith, decimal_short 6 r (h r refl))
bound_most (Bound.Refused n p) h = omega arith

task_most : (i : ℕ) (t : Task) (b : Bound) → i < 100 → Misses t → ((r : ℕ) → b ≡ Bound.At r → r < 10000000) → length (task_line i t b) ≤ 32
task_most i t b h m k =
    simp length-append
    (omega (arith, decimal_short 1 i h, decimal_short 1 (w_of t.m t.k) (w_digits t m), decimal_short 1 (h_of t.m t.k) (h_digits t m), bound_most b k))

answer_most : (a : Said) → Small a → length (answer_text a) ≤ 16
answer_most (Said.Run p c) h = simp length-append (omega (arith, decimal_short 1 p h.0, decimal_short 1 c h.1))
answer_most Said.Idle h = omega arith
answer_most (Said.Refused n) h = omega (arith, decimal_short 1 n h)

event_most : (i : ℕ) (a : Said) → i < 10000 → Small a → length (event_line i a) ≤ 27
event_most i a h s = simp length-append (omega (arith, decimal_short 3 i h, answer_most a s))

stop_most : (r : Reading) (offset : ℕ) → (read_said r).number ≤ 8 → offset < 100000 → length (stop_by (ended_by r offset)) ≤ 17
stop_most (R.Event e) offset k h = omega arith
stop_most R.End offset k h = omega arith
stop_most (R.Refused n) offset k h = simp length-append (omega (arith, decimal_short 1 n (omega arith), decimal_short 4 offset h))

last_most : (i : ℕ) (r : Record) (clock : ℕ) → i < 100 → Sound r clock → clock ≤ limit → length (last_line i r) ≤ 85
last_most i r clock h s l =
    simp length-append
    (omega (
      arith,
      decimal_short 1 i h,
      decimal_short 12 r.met (met_small r clock s l),
      decimal_short 12 r.missed (missed_small r clock s l),
      decimal_short 0 (open_of r) (open_small r clock s l),
      decimal_short 1 (window_of r) (window_small r clock s l),
      decimal_short 12 r.broken (broken_small r clock s l),
    ))

-- ---- all lines of a kind

tasks_most : (t : Table) → judged t ≡ Accepted → (n : ℕ) → n ≤ t.count → length (task_lines t n) ≤ 32 * n
unfolding task_lines
tasks_most t good zero h = omega arith
tasks_most t good (suc n) h =
    let c = ((judged_accepted t).0 good).0.most in
    let m = ((fault_none (task_at t n)).0 (task_ruled t good n h)).1 in
    let o = task_most n (task_at t n) (one_answer t n) (omega arith) m (bound_small t good n h) in
    rw (length-append (task_lines t n) (task_line n (task_at t n) (one_answer t n))) (omega (arith, tasks_most t good n (omega arith)))

events_most : (i : ℕ) (s : State) (es : List Event) → StateSound s → i + length es ≤ 10000 → length (event_lines i s es) ≤ 27 * length es
unfolding event_lines
events_most i s [] p h = omega arith
events_most i s (e ∷ es) p h =
    let o = event_most i (applied s e).answer (omega arith) (applied_small s e p) in
    rw (length-append (event_line i (applied s e).answer) (event_lines (i + 1) (applied s e).state es))
    (omega (arith, events_most (i + 1) (applied s e).state es (applied_sound s p e) (omega arith)))

lasts_most : (s : State) → StateSound s → (n : ℕ) → n ≤ s.count → length (last_lines s n) ≤ 85 * n
unfolding last_lines
lasts_most s p zero h = omega arith
lasts_most s p (suc n) h =
    let c = p.counted.most in
    let o = last_most n (record_at s n) s.clock (omega arith) (p.each n h) p.clock in
    rw (length-append (last_lines s n) (last_line n (record_at s n))) (omega (arith, lasts_most s p n (omega arith)))

-- ---- the listing

table_most : (t : Table) → judged t ≡ Accepted → (log : List ℕ) → length log ≤ 65536 → length (table_listing t log) ≤ 131072
unfolding table_listing stop_text
table_most t good log h =
    let c = ((judged_accepted t).0 good).0.most in
    let f = fresh_state_sound t good in
    let r = readable-fits log in
    let n = events_length log in
    let a = tasks_most t good t.count (le_refl t.count) in
    let b = events_most 1 (fresh_state t) (events_of log) f (omega arith) in
    let o = stop_most (read_record (rest_of log)) (20 * readable log) (rest_most log) (omega arith) in
    let q = state_after (fresh_state t) (events_of log) in
    let k : q.count ≡ t.count = after_count (fresh_state t) (events_of log) in
    let d = lasts_most q (after_sound (fresh_state t) (events_of log) f) t.count (omega arith) in
    simp length-append (omega arith)

listed_most : (s log : List ℕ) → length log ≤ 65536 → length (listed (read_table s) log) ≤ 131072
unfolding listed
listed_most s log h = go (read_table s).answer refl
  where
    go : (a : Answer) → (read_table s).answer ≡ a → length (listed_by a (read_table s).table log) ≤ 131072
    go Accepted e = table_most (read_table s).table (read_good s e) log h
    go (Refused n p) e =
        let q = refusal_small s n p e in
        omega (arith, refused_most n p q.0 q.1)

pub listing_fits : (s : List ℕ) → length (listing_of s) ≤ 131072
unfolding listing_of
listing_fits s =
    by_test Within (ltb 65536 (length s)) _ _ (λ e. omega arith)
    (λ e.
    let l = ltb-false 65536 (length s) e in
    by_test Within (table_there s) _ _ (λ f. listed_most (table_bytes s) (event_bytes s) (rw length-drop (omega arith)))
    (λ f. let o = refused_most 1 0 (omega arith) (omega arith) in omega arith))
  where
    Within : List ℕ → Type 0
    Within x = length x ≤ 131072
