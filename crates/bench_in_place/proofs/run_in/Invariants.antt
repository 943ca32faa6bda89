-- `run_in` meets its contract: a turn lends the cells to `made` and the first records to `apply_in`. The invariant: numbers, cells, row and sum are those
-- after i events of the run.
use Rattle.bench_events.proofs.Making.{Making}
use Rattle.bench_sums.proofs.Running.{Running}
use Rattle.bench_in_place.proofs.run_in.Given as goal

abbrev pub invariant-loop-i : goal.invariant-loop-i
invariant-loop-i l = Making l.fn.maker l.i l.maker l.kept
    × Running l.fn.first l.fn.maker l.i (record { count = l.count; clock = l.clock; records = l.records }) l.sum
