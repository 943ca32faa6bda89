-- `last` meets its contract: the parts of the line, one behind another.
use Rattle.text_writing.proofs.Putting.{then_put}
use Rattle.listing_last_line.proofs.last.Goals as goal

pub returns : goal.returns
returns c = then_put c.field.ensures (then_put c.counts_text.ensures (then_put c.window_text.ensures c.words.ensures))
