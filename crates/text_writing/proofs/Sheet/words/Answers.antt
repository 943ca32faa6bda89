-- `words` meets its contract: each turn puts the next byte of the text.
use native.Mathlib.Numerals.{add-one}
use Rattle.text_writing.proofs.Putting.{none_put, next_put}
use Rattle.text_writing.proofs.Sheet.words.Goals as goal

pub loop-b-init : goal.loop-b-init
loop-b-init c = none_put _

pub loop-b-preserved : goal.loop-b-preserved
loop-b-preserved c = rw add-one (next_put c.args.text.now c.loop-b.b-index c.loop-b-test.true c.loop-b.invariant c.byte.ensures)
