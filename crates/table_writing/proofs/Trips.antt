-- A table that is written and read back has its count and its first tasks, and is the same where the rest is zero; bytes that read, written again, are the
-- same bytes: record by record, from the round trips of a number.
use Prim.Native.Nat.{ℕ, zero, suc, ◌+◌, ◌*◌, ◌/◌, ◌≤◌, ◌<◌}
use mathlib.Core.Path.{◌≡◌, refl, sym, ap, ◌∙◌}
use mathlib.Core.List.{List, [], ◌∷◌, ◌++◌, append_assoc, append-nil}
use native.Mathlib.Decide.{ℕ_discrete, dec_lt}
use native.Mathlib.Nat.{not-suc-le-zero, le_refl}
use native.Mathlib.Omega.{arith}
use borrow.Author.Tests.{le-leb}
use lib.ListN.{length, get_or, take, drop, replicate, get_or-replicate, length-drop}
use lib.Seq.{take_at, drop_at, take_all, take-add, length-take-le, ext_get_or}
use Rattle.laws.specs.Bytes.{AreBytes}
use Rattle.laws.proofs.Bytes.{drop-bytes, take-bytes}
use Rattle.laws.proofs.Parts.{two_at}
use Rattle.laws.proofs.Stores.{length_filled, filled_below, filled_past, filled_same}
use Rattle.number_reading.specs.Words.{number}
use Rattle.number_writing.specs.Bytes.{bytes}
use Rattle.number_writing.proofs.Trips.{number_of-bytes, bytes_of_number}
use Rattle.table_rules.specs.Answers.{Accepted}
use Rattle.table_rules.specs.declared.Task.{Task}
use Rattle.table_rules.specs.declared.Table.{Table}
use Rattle.table_rules.specs.Rules.{Times, task_fault, no_task}
use Rattle.table_rules.specs.Judging.{judged}
use Rattle.table_reading.specs.Row.{Marked, task_of, record_fault}
use Rattle.table_reading.specs.Table.{bytes_at, task_from, read_answer, read_table}
use Rattle.table_rules.specs.Tidy.{Tidy}
use Rattle.table_writing.specs.Writing.{record_of, records_of, write_answer, wrote_table, tidied}
use Rattle.table_rules.proofs.Exactly.{judged_accepted}
use Rattle.table_reading.proofs.Exactly.{read_accepted, length_at}
use Rattle.table_writing.proofs.Records.{length_record, length_records}
use Rattle.table_rules.proofs.Ruling.{fault_none}
use Rattle.table_reading.proofs.Rows.{marked}
use Rattle.table_reading.proofs.Given.{count, given, whole, task_there, fault_there, given_good, given_is}
use Rattle.table_writing.proofs.Written.{write_accepted, write_leaves}

-- ---- one record, written and read

pub task_of_record : (t : Task) → Times t → task_of (record_of t) ≡ t
unfolding bytes
task_of_record t r =
    let c = number_of-bytes 4 t.c (omega (arith, r.within, r.spaced, r.limit)) in
    let d = number_of-bytes 4 t.d (omega (arith, r.spaced, r.limit)) in
    let e = number_of-bytes 4 t.t (omega (arith, r.limit)) in
    rw (c, d, e)

pub record_fault_lem : (t : Task) → task_fault t ≡ 0 → record_fault (record_of t) ≡ 0
unfolding bytes
record_fault_lem t e =
    marked (record_of t) (length_record t) (record { first = refl; second = refl })
    ∙ ap task_fault (task_of_record t ((fault_none t).0 e).0)
    ∙ e

-- ---- one record, read and written

same_five : {a a' b b' c c' d d' e e' : List ℕ} → a ≡ a' → b ≡ b' → c ≡ c' → d ≡ d' → e ≡ e' → a ++ b ++ c ++ d ++ e ≡ a' ++ b' ++ c' ++ d' ++ e'
same_five p q r s t = rw (p, q, r, s, t)

-- a list of 16 in the record's parts
parts : (r : List ℕ) → length r ≡ 16 → take 2 r ++ take 4 (drop 2 r) ++ take 4 (drop 6 r) ++ take 4 (drop 10 r) ++ take 2 (drop 14 r) ≡ r
parts r l = rw (← take-add 2 4 r, ← take-add 6 4 r, ← take-add 10 4 r, ← take-add 14 2 r) (take_all 16 r (omega arith))

pub record_of_task : (r : List ℕ) → length r ≡ 16 → AreBytes r → Marked r → record_of (task_of r) ≡ r
record_of_task r l b m = same_five mark (field 2 (omega arith)) (field 6 (omega arith)) (field 10 (omega arith)) (sym (two_at r 14 0 (omega arith))) ∙ parts r l
  where
    field : (at : ℕ) → at + 4 ≤ 16 → bytes 4 (number (take 4 (drop at r))) ≡ take 4 (drop at r)
    field at h =
        let n : length (take 4 (drop at r)) ≡ 4 = length-take-le 4 (drop at r) (rw length-drop (omega arith)) in
        rw n at (bytes_of_number (take 4 (drop at r)) (take-bytes 4 (drop at r) (drop-bytes at r b)))

    mark : 0x54 ∷ 0x4B ∷ [] ≡ take 2 r
    mark = sym (two_at r 0 0 (omega arith) ∙ rw (m.first, m.second))

-- ---- all records

-- the record at a position behind others, with anything past them
pub record_in : (ts : List Task) (n : ℕ) (s : List ℕ) (i : ℕ) → i < n → bytes_at (records_of ts n ++ s) i ≡ record_of (get_or ts i no_task)
unfolding records_of
record_in ts zero s i h = absurd (not-suc-le-zero h)
record_in ts (suc n) s i h = go (ℕ_discrete i n) (record_in ts n (record_of (get_or ts n no_task) ++ s) i)
  where
    go : Dec (i ≡ n) → (i < n → bytes_at (records_of ts n ++ (record_of (get_or ts n no_task) ++ s)) i ≡ record_of (get_or ts i no_task))
        → bytes_at (records_of ts n ++ record_of (get_or ts n no_task) ++ s) i ≡ record_of (get_or ts i no_task)
    go (yes q) k =
        let r = record_of (get_or ts n no_task) in
        rw (q, append_assoc (records_of ts n) r s, drop_at (records_of ts n) (r ++ s) (16 * n) (length_records ts n))
        (take_at r s 16 (length_record (get_or ts n no_task)))
    go (no q) k = rw (append_assoc (records_of ts n) (record_of (get_or ts n no_task)) s) (k (omega arith))

-- an accepted table's records read, and give its first tasks
module _ (t : Table) (good : judged t ≡ Accepted) where
  abbrev all : List ℕ
  all = records_of t.tasks t.count

  each : (i : ℕ) → i < t.count → bytes_at all i ≡ record_of (get_or t.tasks i no_task)
  each i h = rw (append-nil) at (record_in t.tasks t.count [] i h)

  sixteenth : length all / 16 ≡ t.count
  sixteenth = let l = length_records t.tasks t.count in omega arith

  all_read : read_answer all ≡ Accepted
  all_read =
      let a = (judged_accepted t).0 good in
      (read_accepted all).1 (
        record { records = omega (arith, length_records t.tasks t.count); counted = rw sixteenth a.0 },
        λ i h. let j : i < t.count = rw sixteenth at h in rw (each i j) (record_fault_lem (get_or t.tasks i no_task) (a.1 i j)),
      )

  task_back : (i : ℕ) → i < t.count → task_from all i ≡ get_or t.tasks i no_task
  task_back i h =
      let a = (judged_accepted t).0 good in
      ap task_of (each i h) ∙ task_of_record (get_or t.tasks i no_task) ((fault_none (get_or t.tasks i no_task)).0 (a.1 i h)).0

  pub records_read : read_table all ≡ record { answer = Accepted; table = tidied t }
  unfolding read_table
  records_read = rw (all_read, sixteenth, filled_same (task_from all) (λ (i : ℕ). get_or t.tasks i no_task) (replicate 16 no_task) t.count task_back)

-- what `tidied` leaves is the count and the first tasks, and all of a table whose other places are zero
module _ (t : Table) (most : t.count ≤ 16) where
  pub tidied_task : (i : ℕ) → i < t.count → get_or (tidied t).tasks i no_task ≡ get_or t.tasks i no_task
  tidied_task i h = filled_below (λ (j : ℕ). get_or t.tasks j no_task) (replicate 16 no_task) no_task t.count i most h

  tidied_past : (i : ℕ) → i < 16 → t.count ≤ i → get_or (tidied t).tasks i no_task ≡ no_task
  tidied_past i l h = filled_past (λ (j : ℕ). get_or t.tasks j no_task) (replicate 16 no_task) no_task t.count i h ∙ get_or-replicate 16 i no_task no_task l

  pub tidied_same : Tidy t → tidied t ≡ t
  tidied_same tidy =
      ap (λ (ts : List Task). record { count = t.count; tasks = ts })
      (ext_get_or no_task (tidied t).tasks t.tasks (places ∙ sym tidy.places) (λ i h. go i (rw places at h) (dec_lt i t.count)))
    where
      places : length (tidied t).tasks ≡ 16
      places = length_filled (λ (i : ℕ). get_or t.tasks i no_task) (replicate 16 no_task) no_task t.count

      go : (i : ℕ) → i < 16 → Dec (i < t.count) → get_or (tidied t).tasks i no_task ≡ get_or t.tasks i no_task
      go i h (yes q) = tidied_task i q
      go i h (no q) = tidied_past i h (omega arith) ∙ sym (tidy.zeros i (omega arith))

-- ---- the theorems

module _ (t : Table) (s : List ℕ) (e : write_answer t (length s) ≡ Accepted) where
  -- every table that is written reads back with its count and its first tasks
  pub written_tidied : read_table (take (16 * t.count) (wrote_table t s)) ≡ record { answer = Accepted; table = tidied t }
  written_tidied =
      rw (write_leaves t s e, take_at (records_of t.tasks t.count) (drop (16 * t.count) s) (16 * t.count) (length_records t.tasks t.count))
      (records_read t ((write_accepted t (length s)).0 e).0)

  -- and is the same table where its other places are zero, as in every table that was read
  pub written_read : Tidy t → read_table (take (16 * t.count) (wrote_table t s)) ≡ record { answer = Accepted; table = t }
  written_read tidy =
      let m = ((judged_accepted t).0 ((write_accepted t (length s)).0 e).0).0.most in
      written_tidied ∙ ap (λ (x : Table). record { answer = Accepted; table = x }) (tidied_same t m tidy)

-- bytes that read are the records of the table they give
module _ (s : List ℕ) (good : read_answer s ≡ Accepted) where
  front : AreBytes s → (n : ℕ) → n ≤ count s → records_of (given s).tasks n ≡ take (16 * n) s
  unfolding records_of
  front b zero h = refl
  front b (suc n) h =
      let e : 16 * suc n ≡ 16 * n + 16 = omega arith in
      let r = record_of_task (bytes_at s n) (length_at s n h) (take-bytes 16 (drop (16 * n) s) (drop-bytes (16 * n) s b)) (fault_there s good n h).0 in
      rw (front b n (omega arith), task_there s good n h, r, e, take-add (16 * n) 16 s)

  again : AreBytes s → records_of (given s).tasks (count s) ≡ s
  again b = front b (count s) (le_refl (count s)) ∙ take_all (16 * count s) s (omega (arith, (whole s good).records))

  -- bytes that read, written again, are the same bytes
  pub read_written : AreBytes s → (u : List ℕ) → length s ≤ length u
      → (write_answer (read_table s).table (length u) ≡ Accepted) × (wrote_table (read_table s).table u ≡ s ++ drop (length s) u)
  unfolding write_answer
  read_written b u h =
      let n : 16 * count s ≡ length s = omega (arith, (whole s good).records) in
      let e : write_answer (given s) (length u) ≡ Accepted = rw (given_good s good, le-leb (16 * count s) (length u) (omega arith)) in
      rw (given_is s good) (e, write_leaves (given s) u e ∙ rw (again b, n))
