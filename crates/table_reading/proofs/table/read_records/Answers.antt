-- `table::read_records` meets its contract: before each turn the records passed have no fault, and their tasks stand in the row.
use Prim.Native.Nat.{ℕ, ◌+◌, ◌-◌, ◌*◌}
use mathlib.Core.Path.{◌≡◌, refl, sym, ◌∙◌}
use mathlib.Core.List.{List}
use native.Mathlib.Numerals.{add-one}
use native.Mathlib.Omega.{arith}
use lib.ListN.{take, drop}
use Rattle.laws.specs.Stores.{filled}
use Rattle.refusals.specs.Numbers.{number_of}
use Rattle.table_rules.specs.Judging.{first_fault}
use Rattle.table_rules.specs.Rules.{no_task}
use borrow.Author.Rules.{rules}
use Rattle.table_rules.proofs.Faults.{none_more, found_at}
use Rattle.table_reading.specs.Answers.{Row}
use Rattle.table_reading.specs.Row.{read_row}
use Rattle.table_reading.specs.Table.{bytes_at, record_fault_at}
use Rattle.table_reading.proofs.Rows.{task_row, refused_row}
use Rattle.table_reading.proofs.table.read_records.Goals as goal

-- the part that is read is the record at i
part_is : {r : Row} (s : List ℕ) (i : ℕ) → r ≡ read_row (take (16 * i + 16 - 16 * i) (drop (16 * i) s)) → read_row (bytes_at s i) ≡ r
part_is s i e = let n : 16 * i + 16 - 16 * i ≡ 16 = omega arith in sym (rw n at e)

pub loop-position-init : goal.loop-position-init
unfolding first_fault filled
loop-position-init c =
    let d : c.default-tasks.result ≡ no_task = search rules in
    (refl, rw d)

pub returns-in-Err : goal.returns-in-Err
returns-in-Err c =
    let l = c.loop-position in
    let s = c.args.bytes.now in
    let r = refused_row (bytes_at s l.position) (number_of c.in-Err.refusal) (part_is s l.position c.in-Err.ensures) in
    let f = found_at (record_fault_at s) l.position c.args.count c.loop-position-test.true l.invariant.0 (λ z. r.1 (sym r.0 ∙ z)) in
    rw (f, r.0)

pub loop-position-preserved : goal.loop-position-preserved
unfolding filled
loop-position-preserved c =
    let l = c.loop-position in
    let s = c.args.bytes.now in
    let r = task_row (bytes_at s l.position) c.in-Ok.task (part_is s l.position c.in-Ok.ensures) in
    (rw add-one (none_more (record_fault_at s) l.position l.invariant.0 r.0), rw (l.invariant.1, r.1, add-one))
