use Rattle.text_writing.proofs.Sheet.+number.Given as goal

abbrev pub decreases-number : goal.decreases-number
decreases-number l = l.n
