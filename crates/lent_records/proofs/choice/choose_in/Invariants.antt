-- `choice::choose_in` meets its contract. The invariant: the local `best` holds the best of the records passed.
use Rattle.std.proofs.Common.{◌≡◌}
use Rattle.state_choice.specs.Best.{as_best}
use Rattle.state_choice.specs.Choice.{best_to}
use Rattle.lent_records.proofs.choice.choose_in.Given as goal

abbrev pub invariant-loop-at : goal.invariant-loop-at
invariant-loop-at l = as_best l.best ≡ best_to l.row l.at
