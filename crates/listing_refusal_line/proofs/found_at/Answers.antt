-- `found_at` meets its contract: the word and the refusal's number, and then where it was found.
use Rattle.text_writing.proofs.Putting.{then_put}
use Rattle.listing_refusal_line.proofs.found_at.Goals as goal

pub returns : goal.returns
returns c = then_put (rw c.from.ensures at c.field.ensures) (then_put c.field-2.ensures c.words.ensures)
