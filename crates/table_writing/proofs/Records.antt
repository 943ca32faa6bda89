-- The records of a table stand one behind the other, 16 bytes each: by induction on how many there are.
use Prim.Native.Nat.{ℕ, zero, suc, ◌+◌, ◌-◌, ◌*◌, ◌≤◌}
use mathlib.Core.Path.{◌≡◌, refl, sym, ◌∙◌}
use mathlib.Core.List.{List, ◌++◌, append_assoc}
use native.Mathlib.Omega.{arith}
use lib.ListN.{length, get_or, drop, length-append}
use borrow.Rule.Slice.PartMut.{put_mid}
use lib.Seq.{take_at, drop_at, drop-drop}
use Rattle.number_writing.specs.Bytes.{bytes}
use Rattle.table_rules.specs.declared.Task.{Task}
use Rattle.table_rules.specs.declared.Table.{Table}
use Rattle.table_rules.specs.Answers.{Accepted}
use Rattle.table_rules.specs.Rules.{no_task}
use Rattle.table_rules.specs.Judging.{judged}
use Rattle.table_rules.proofs.Exactly.{judged_accepted}
use Rattle.table_writing.specs.Writing.{record_of, records_of}

pub length_record : (t : Task) → length (record_of t) ≡ 16
unfolding bytes
length_record t = refl

pub length_records : (ts : List Task) (n : ℕ) → length (records_of ts n) ≡ 16 * n
unfolding records_of
length_records ts zero = refl
length_records ts (suc n) =
    length-append (records_of ts n) (record_of (get_or ts n no_task)) ∙ omega (arith, length_records ts n, length_record (get_or ts n no_task))

-- the record that is put at a place behind n others is the next
pub record_put : (ts : List Task) (n : ℕ) (s : List ℕ)
    → put_mid (16 * n) (16 * n + 16 - 16 * n) (records_of ts n ++ drop (16 * n) s) (record_of (get_or ts n no_task))
    ≡ records_of ts (suc n) ++ drop (16 * suc n) s
unfolding records_of
record_put ts n s =
    let l = length_records ts n in
    let w : 16 * n + 16 - 16 * n ≡ 16 = omega arith in
    let e : 16 * n + 16 ≡ 16 * suc n = omega arith in
    rw (
      w,
      take_at (records_of ts n) (drop (16 * n) s) (16 * n) l,
      drop_at (records_of ts n) (drop (16 * n) s) (16 * n) l,
      drop-drop,
      e,
      append_assoc (records_of ts n) (record_of (get_or ts n no_task)) (drop (16 * suc n) s),
    )

-- a table that was accepted has at most 16 tasks
pub count_most : (t : Table) → Accepted ≡ judged t → t.count ≤ 16
count_most t e = ((judged_accepted t).0 (sym e)).0.most
