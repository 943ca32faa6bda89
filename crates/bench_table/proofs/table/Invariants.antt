use Rattle.std.proofs.Common.{◌≡◌}
use Rattle.std.proofs.Math.ListN.{replicate}
use Rattle.laws.specs.Stores.{filled}
use Rattle.table_rules.specs.Rules.{no_task}
use Rattle.bench_table.specs.Table.{task_at}
use Rattle.bench_table.proofs.table.Given as goal

abbrev pub invariant-loop-i : goal.invariant-loop-i
invariant-loop-i l = l.row ≡ filled (task_at l.count) l.i (replicate 16 no_task)
