use Rattle.text_writing.specs.Puts.{Puts}
use Rattle.listing_text.specs.TableLines.{last_lines}
use Rattle.listing_table_lines.proofs.ends.Given as goal

abbrev pub invariant-loop-i : goal.invariant-loop-i
invariant-loop-i l = Puts l.fn.sheet l.sheet (last_lines l.state l.i)
