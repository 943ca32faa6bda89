use Rattle.number_reading.proofs.Places.{Reading}
use Rattle.number_reading.proofs.spelled.Given as goal

abbrev pub invariant-loop-b : goal.invariant-loop-b
invariant-loop-b l = Reading l.s l.b-iterator.iter.rest.now l.x
