use Rattle.std.proofs.Common.{take}
use Rattle.text_writing.specs.Puts.{Puts}
use Rattle.text_writing.proofs.Sheet.words.Given as goal

abbrev pub invariant-loop-b : goal.invariant-loop-b
invariant-loop-b l = Puts l.fn.self l.self (take l.b-index l.text)
