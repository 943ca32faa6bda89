-- `rest` meets its contract: a record that reads is dropped, which leaves the rest the same, and any other answer is the end.
use Prim.Native.Nat.{◌≤◌}
use mathlib.Core.Path.{◌≡◌, sym, ◌∙◌}
use native.Mathlib.Omega.{arith}
use lib.ListN.{length, length-drop}
use Rattle.laws.proofs.Parts.{tail_is}
use Rattle.event_reading.specs.Record.{read_record}
use Rattle.event_reading.specs.Reading as R
use Rattle.event_logs.proofs.Records.{record_there, rest_behind}
use Rattle.event_logs.proofs.rest.Goals.{In-Ok-Some}
use Rattle.event_logs.proofs.rest.Goals as goal

-- what is read at the front
reads : (c : In-Ok-Some) → read_record c.loop-left.left.now ≡ R.Event c.in-Ok-Some.field-0-0
reads c = sym (rw c.in-Ok-Some.field-0-is at c.in-Ok-Some.ensures)

pub slice_bounds-left-count : goal.slice_bounds-left-count
slice_bounds-left-count c = record_there _ _ (reads (goal.at.slice_bounds-left-count c).In-Ok-Some)

pub slice_bounds-left-start : goal.slice_bounds-left-start
slice_bounds-left-start c = record_there _ _ (reads (goal.at.slice_bounds-left-start c).In-Ok-Some)

pub loop-left-smaller : goal.loop-left-smaller
loop-left-smaller c =
    let h : 20 ≤ length c.loop-left.left.now = record_there _ _ (reads (goal.at.loop-left-smaller c).In-Ok-Some) in
    rw (tail_is c.loop-left.left.now 20, length-drop) (omega arith)

pub loop-left-preserved : goal.loop-left-preserved
loop-left-preserved c =
    rw (tail_is c.loop-left.left.now 20) (rest_behind _ _ (reads (goal.at.loop-left-preserved c).In-Ok-Some) ∙ c.loop-left.invariant)
