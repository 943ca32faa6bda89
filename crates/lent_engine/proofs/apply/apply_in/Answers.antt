-- `apply::apply_in` meets its contract: the row is lent to `rule_in`, shared, and where the event is accepted to `settle_in`; where it is refused, row and
-- clock stay as lent.
use Rattle.std.proofs.Common.{Ok, Err}
use Rattle.std.proofs.Math.Dec.{not_T, eqb}
use Rattle.std.proofs.Math.Facts.{eqb_yes}
use Rattle.refusals.specs.Numbers.{number_of}
use Rattle.refusals.proofs.Numbers.{number_some}
use Rattle.apply_events.specs.Answer.{as_told}
use Rattle.apply_ruling.specs.Answer.{Ruling, as_ruling}
use Rattle.lent_answers.specs.Turn.{as_turn}
use Rattle.lent_answers.specs.Turns.{ruled_on}
use Rattle.lent_answers.proofs.Turns.{accepted_some, says_accepted, says_refused}
use Rattle.lent_engine.proofs.apply.apply_in.Goals as goal

pub settle_in-requires : goal.settle_in-requires
settle_in-requires c =
    let q : Ruling = as_ruling (ruled_on c.args.row.now c.args.clock c.args.event) (Ok c.in-Ok.after) in
    accepted_some c.args.row.now c.args.clock c.args.event q c.in-Ok.ensures tt

pub returns-in-Ok : goal.returns-in-Ok
returns-in-Ok c =
    let q : Ruling = as_ruling (ruled_on c.args.row.now c.args.clock c.args.event) (Ok c.in-Ok.after) in
    says_accepted c.args.row.now c.args.clock c.args.event q c.in-Ok.ensures tt (as_told (Ok c.settle_in.result)) c.settle_in.new.row c.settle_in.ensures
    (as_turn c.accepted.result) c.accepted.ensures

pub returns-in-Err : goal.returns-in-Err
returns-in-Err c =
    let q : Ruling = as_ruling (ruled_on c.args.row.now c.args.clock c.args.event) (Err c.in-Err.refusal) in
    let told = not_T (eqb (number_of c.in-Err.refusal) 0) (λ t. number_some c.in-Err.refusal (eqb_yes t)) in
    says_refused c.args.row.now c.args.clock c.args.event q c.in-Err.ensures told (as_turn c.refused.result) c.refused.ensures
