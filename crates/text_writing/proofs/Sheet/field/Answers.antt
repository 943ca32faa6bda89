-- `field` meets its contract: the word is put, and then the number behind it.
use Rattle.text_writing.proofs.Putting.{then_put}
use Rattle.text_writing.proofs.Sheet.field.Goals as goal

pub returns : goal.returns
returns c = then_put c.words.ensures c.number.ensures
