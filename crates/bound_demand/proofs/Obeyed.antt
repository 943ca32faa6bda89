-- An accepted table has at most 16 tasks, and each has a cost, a spacing and a deadline within 1,000,000: by the rules that judging has tested.
use Prim.Native.Nat.{ℕ, ◌≤◌, ◌<◌}
use mathlib.Core.Path.{◌≡◌}
use native.Mathlib.Omega.{arith}
use Rattle.table_rules.specs.declared.Table.{Table}
use Rattle.table_rules.specs.Answers.{Accepted}
use Rattle.table_rules.specs.Rules.{Times}
use Rattle.table_rules.specs.Judging.{judged}
use Rattle.table_rules.proofs.Exactly.{judged_accepted}
use Rattle.table_rules.proofs.Ruling.{fault_none}
use Rattle.bound_demand.specs.Above.{task_at}
use Rattle.bound_demand.specs.Demand.{cost_of, spacing_of}

module _ (t : Table) (good : judged t ≡ Accepted) where
  pub few : t.count ≤ 16
  few = ((judged_accepted t).0 good).0.most

  pub times : (i : ℕ) → i < t.count → Times (task_at t i)
  times i h = ((fault_none (task_at t i)).0 (((judged_accepted t).0 good).1 i h)).0

  pub cost_some : (i : ℕ) → i < t.count → 1 ≤ cost_of (task_at t i)
  cost_some i h = (times i h).some

  pub spacing_some : (i : ℕ) → i < t.count → 1 ≤ spacing_of (task_at t i)
  spacing_some i h = let r = times i h in omega (arith, r.some, r.within, r.spaced)

  pub deadline_most : (i : ℕ) → i < t.count → (task_at t i).d ≤ 1000000
  deadline_most i h = let r = times i h in omega (arith, r.spaced, r.limit)
