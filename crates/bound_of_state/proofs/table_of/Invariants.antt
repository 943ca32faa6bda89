use Prim.Native.Nat.{ℕ}
use mathlib.Core.Path.{◌≡◌}
use lib.ListN.{replicate}
use Rattle.laws.specs.Stores.{filled}
use Rattle.table_rules.specs.Rules.{no_task}
use Rattle.state_rules.specs.State.{record_at}
use Rattle.bound_of_state.proofs.table_of.Given as goal

-- the first i places hold the records' tasks
abbrev pub invariant-loop-i : goal.invariant-loop-i
invariant-loop-i l = l.tasks ≡ filled (λ (j : ℕ). (record_at l.fn.state j).task) l.i (replicate 16 no_task)
