-- `apply::apply_of` meets its contract: the first records of the array are lent to `apply_in`, and what lies behind them stays.
use Rattle.std.proofs.Common.{◌≤◌, rules, length, ◌∙◌}
use Rattle.lent_answers.specs.Turn.{as_turn}
use Rattle.lent_engine.proofs.Fronts.{placed_is}
use Rattle.lent_engine.proofs.apply.apply_of.Goals as goal

pub returns : goal.returns
returns c =
    let enough : c.args.state.count ≤ length c.args.state.records = search rules in
    c.placed.ensures ∙ placed_is c.args.state c.args.event enough (as_turn c.apply_in-turn.result) c.apply_in-turn.new.row c.apply_in-turn.ensures
