-- `ends` meets its contract: after i turns the last lines of the first i tasks are put.
use native.Mathlib.Numerals.{add-one}
use Rattle.text_writing.proofs.Putting.{none_put, then_put}
use Rattle.listing_text.specs.TableLines.{last_lines}
use Rattle.listing_table_lines.proofs.ends.Goals as goal

pub loop-i-init : goal.loop-i-init
unfolding last_lines
loop-i-init c = none_put _

pub loop-i-preserved : goal.loop-i-preserved
unfolding last_lines
loop-i-preserved c = rw (add-one c.loop-i.i) (then_put c.loop-i.invariant c.last.ensures)
