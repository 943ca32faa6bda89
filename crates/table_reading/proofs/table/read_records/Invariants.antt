-- The invariant of `table::read_records`: the records that were passed have no fault, and their tasks stand in the row.
use mathlib.Core.Path.{◌≡◌}
use lib.ListN.{replicate}
use Rattle.laws.specs.Stores.{filled}
use Rattle.table_rules.specs.Answers.{Accepted}
use Rattle.table_rules.specs.Rules.{no_task}
use Rattle.table_rules.specs.Judging.{first_fault}
use Rattle.table_reading.specs.Table.{record_fault_at, task_from}
use Rattle.table_reading.proofs.table.read_records.Given as goal

abbrev pub invariant-loop-position : goal.invariant-loop-position
invariant-loop-position l =
    (first_fault (record_fault_at l.bytes) l.position ≡ Accepted) × (l.tasks ≡ filled (task_from l.bytes) l.position (replicate 16 no_task))
