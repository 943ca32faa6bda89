-- `window_text` meets its contract: the window's number, and then the count of broken windows.
use Rattle.text_writing.proofs.Putting.{then_put}
use Rattle.listing_last_line.proofs.window_text.Goals as goal

pub returns : goal.returns
returns c = then_put (rw (c.from.ensures, c.window.ensures) at c.field.ensures) c.field-2.ensures
