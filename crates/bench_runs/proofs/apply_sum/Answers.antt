-- What the loop keeps: after i events the state and the sum are those that the first i events leave.
use Rattle.apply_events.specs.Answer.{as_applied}
use Rattle.bench_events.proofs.Making.{none_made, this_event, one_made}
use Rattle.bench_sums.proofs.Running.{none_run, one_run}
use Rattle.bench_runs.proofs.apply_sum.Goals as goal

pub loop-i-init : goal.loop-i-init
loop-i-init c = (rw c.cells-kept.ensures (none_made c.args.maker), none_run c.args.first c.args.maker)

pub loop-i-preserved : goal.loop-i-preserved
loop-i-preserved c =
    let k = c.args.maker in
    let l = c.loop-i in
    let p = l.invariant.0 in
    let this = this_event k l.i l.next l.kept p c.drawn-next.result c.drawn-next.ensures c.made.result c.made.ensures.0 in (
      one_made k l.i l.next l.kept p c.drawn-next.result c.drawn-next.ensures c.made.new.cells c.made.ensures.1,
      one_run c.args.first k l.i l.state l.sum l.invariant.1 c.made.result this (as_applied c.apply-done.result) c.apply-done.ensures c.fold_answer-sum.result
          c.fold_answer-sum.ensures,
    )
