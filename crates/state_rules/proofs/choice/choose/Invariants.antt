use mathlib.Core.Path.{◌≡◌}
use Rattle.state_choice.specs.Best.{as_best}
use Rattle.state_choice.specs.Choice.{best_to}
use Rattle.state_rules.proofs.choice.choose.Given as goal

abbrev pub invariant-loop-i : goal.invariant-loop-i
invariant-loop-i l = as_best l.best ≡ best_to l.state.records l.i
