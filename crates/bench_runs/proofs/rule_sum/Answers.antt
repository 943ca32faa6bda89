-- What the loop keeps: after i events the numbers, the cells and the sum are those of the first i events.
use Rattle.bench_events.proofs.Making.{none_made, this_event, one_made}
use Rattle.bench_sums.proofs.Running.{no_events, one_event}
use Rattle.bench_runs.proofs.rule_sum.Goals as goal

pub loop-i-init : goal.loop-i-init
loop-i-init c = (rw c.cells-kept.ensures (none_made c.args.maker), no_events c.args.maker)

pub loop-i-preserved : goal.loop-i-preserved
loop-i-preserved c =
    let k = c.args.maker in
    let l = c.loop-i in
    let p = l.invariant.0 in
    let this = this_event k l.i l.next l.kept p c.drawn-next.result c.drawn-next.ensures c.made.result c.made.ensures.0 in (
      one_made k l.i l.next l.kept p c.drawn-next.result c.drawn-next.ensures c.made.new.cells c.made.ensures.1,
      one_event k l.i l.sum c.fold_event-sum.result c.made.result l.invariant.1 this c.fold_event-sum.ensures,
    )
