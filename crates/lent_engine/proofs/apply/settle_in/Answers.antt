-- `apply::settle_in` meets its contract: the event's record is stored at its seat; the row is lent to `expire_all_in`, and then, shared, to `choose_in`; the
-- chosen place is one of the row's, which is as long as it was lent.
use Rattle.std.proofs.Common.{◌≡◌, ◌<◌, arith, length, length-set, rules}
use Rattle.task_records.specs.declared.Record.{Record}
use Rattle.state_choice.specs.Best.{as_best}
use Rattle.lent_answers.proofs.Turns.{chosen_within}
use Rattle.lent_engine.proofs.apply.settle_in.Goals as goal

pub offset_bounds-row-place : goal.offset_bounds-row-place
offset_bounds-row-place c =
    let long : length c.expire_all_in.new.row ≡ length c.args.row.now = omega (arith, length-set {A = Record}) in
    let some : 0 < length c.expire_all_in.new.row = omega arith in
    let within = chosen_within c.expire_all_in.new.row (as_best c.choose_in-best.result) some c.choose_in-best.ensures in
    let within_lent : c.place.result < length c.args.row.now = omega arith in
    search rules

pub slice_copy_out-told_of : goal.slice_copy_out-told_of
slice_copy_out-told_of c =
    let some : 0 < length c.expire_all_in.new.row = omega (arith, length-set {A = Record}) in
    rw c.place.ensures (chosen_within c.expire_all_in.new.row (as_best c.choose_in-best.result) some c.choose_in-best.ensures)
