-- `task` meets its contract: the parts of the line, one behind another.
use Rattle.text_writing.proofs.Putting.{then_put}
use Rattle.listing_first_line.proofs.task.Goals as goal

pub returns : goal.returns
returns c =
    let w = rw (c.from.ensures, c.w.ensures) at c.field-2.ensures in
    let h = rw (c.from-2.ensures, c.h.ensures) at c.field-3.ensures in
    then_put c.field.ensures (then_put w (then_put h (then_put c.bound_text.ensures c.words.ensures)))
