-- `event` meets its contract: the event's number, what it was answered, and the end of the line.
use Rattle.text_writing.proofs.Putting.{then_put}
use Rattle.listing_event_line.proofs.event.Goals as goal

pub returns : goal.returns
returns c = then_put c.field.ensures (then_put c.answer_text.ensures c.words.ensures)
