use Prim.Native.Nat.{ℕ}
use mathlib.Core.Path.{◌≡◌}
use lib.ListN.{get_or, replicate}
use Rattle.laws.specs.Stores.{filled}
use Rattle.table_rules.specs.Limits.{place_count}
use Rattle.table_rules.specs.Rules.{no_task}
use Rattle.task_steps.specs.Opening.{fresh, no_record}
use Rattle.state_rules.proofs.fresh.filled_by.Given as goal

abbrev pub invariant-loop-i : goal.invariant-loop-i
invariant-loop-i l =
    l.records ≡ filled (λ (j : ℕ). fresh (get_or l.table.tasks j no_task)) l.i (replicate place_count no_record)
