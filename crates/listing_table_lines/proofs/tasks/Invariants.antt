use Rattle.text_writing.specs.Puts.{Puts}
use Rattle.listing_text.specs.TableLines.{task_lines}
use Rattle.listing_table_lines.proofs.tasks.Given as goal

abbrev pub invariant-loop-i : goal.invariant-loop-i
invariant-loop-i l = Puts l.fn.sheet l.sheet (task_lines l.table l.i)
