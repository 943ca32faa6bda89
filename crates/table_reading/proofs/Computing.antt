-- One name for every definition by which the reading of a table is computed: a proof that unfolds it unfolds them all.
use Rattle.laws.specs.Stores.{filled}
use Rattle.number_reading.specs.Words.{number}
use Rattle.table_rules.specs.Rules.{task_fault}
use Rattle.table_rules.specs.Judging.{first_fault, judged}
use Rattle.table_reading.specs.Row.{record_fault}
use Rattle.table_reading.specs.Table.{read_answer, read_table}

-- `read_table` of bytes that are written out
unfoldable pub table_computes : Unit {0}
unfolding read_table read_answer record_fault number task_fault first_fault judged filled
table_computes = tt
