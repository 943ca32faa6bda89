-- What the loop keeps: an event over the first records, put back in front of what lies behind them, is one event of the run.
use Rattle.std.proofs.Common.{◌≡◌, ◌≤◌, ◌++◌, drop, length, rules}
use Rattle.state_rules.specs.declared.State.{State}
use Rattle.apply_events.specs.Answer.{Applied}
use Rattle.apply_events.specs.Apply.{applied}
use Rattle.lent_answers.specs.Turn.{Turn, as_turn}
use Rattle.lent_answers.specs.Turns.{placed_by}
use Rattle.lent_engine.proofs.Fronts.{placed_is}
use Rattle.bench_events.proofs.Making.{none_made, this_event, one_made}
use Rattle.bench_sums.proofs.Running.{none_run, one_run}
use Rattle.bench_in_place.proofs.run_in.Goals as goal

pub loop-i-init : goal.loop-i-init
loop-i-init c = (rw c.cells-kept.ensures (none_made c.args.maker), none_run c.args.first c.args.maker)

pub loop-i-preserved : goal.loop-i-preserved
loop-i-preserved c =
    let k = c.args.maker in
    let l = c.loop-i in
    let n = c.args.first.count in
    let q : State = record { count = n; clock = l.clock; records = l.records } in
    let u : Turn = as_turn c.apply_in-turn.result in
    let enough : n ≤ length l.records = search rules in
    let this = this_event k l.i l.maker l.kept l.invariant.0 c.drawn-maker.result c.drawn-maker.ensures c.made-event.result c.made-event.ensures.0 in
    let left : Applied = placed_by u n (c.apply_in-turn.new.row ++ drop n l.records) in
    let placed : left ≡ applied q c.made-event.result =
    placed_is q c.made-event.result enough u c.apply_in-turn.new.row c.apply_in-turn.ensures in (
      one_made k l.i l.maker l.kept l.invariant.0 c.drawn-maker.result c.drawn-maker.ensures c.made-event.new.cells c.made-event.ensures.1,
      one_run c.args.first k l.i q l.sum l.invariant.1 c.made-event.result this left placed c.fold_turn-sum.result c.fold_turn-sum.ensures,
    )
