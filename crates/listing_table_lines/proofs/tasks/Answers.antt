-- `tasks` meets its contract: after i turns the lines of the first i tasks are put.
use native.Mathlib.Numerals.{add-one}
use Rattle.text_writing.proofs.Putting.{none_put, then_put}
use Rattle.listing_text.specs.TableLines.{task_lines}
use Rattle.listing_table_lines.proofs.tasks.Goals as goal

pub loop-i-init : goal.loop-i-init
unfolding task_lines
loop-i-init c = none_put _

pub loop-i-preserved : goal.loop-i-preserved
unfolding task_lines
loop-i-preserved c =
    rw (add-one c.loop-i.i) (then_put c.loop-i.invariant (rw c.bound-found.ensures at c.task.ensures))
