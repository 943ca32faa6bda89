-- `run` meets its contract: the position, and then the class.
use Rattle.text_writing.proofs.Putting.{then_put}
use Rattle.listing_event_line.proofs.run.Goals as goal

pub returns : goal.returns
returns c = then_put c.field.ensures (rw c.from.ensures at c.field-2.ensures)
