-- `fresh::start` meets its contract: a table that is accepted has no more tasks than places.
use mathlib.Core.Path.{sym}
use Rattle.table_rules.proofs.Exactly.{judged_accepted}
use Rattle.state_rules.proofs.fresh.start.Goals as goal

pub filled_by-requires : goal.filled_by-requires
filled_by-requires c = ((judged_accepted c.args.table).0 (sym c.in_ok-judge.ensures)).0.most
