-- What is answered of table bytes and log bytes: the report from the table's fresh state and fresh tallies.
use Rattle.std.specs.Prelude.{ℕ, ◌+◌, List}
use Rattle.table_rules.specs.Answers.{Answer}
use Rattle.table_rules.specs.Answers as T
use Rattle.table_reading.specs.Table.{read_table}
use Rattle.state_rules.specs.declared.State.{State}
use Rattle.state_rules.specs.State.{started}
use Rattle.tally_histories.specs.Sound.{fresh_tallies}
use Rattle.bench_tally.specs.Folds.{report_folded}
use Rattle.bench_tally.specs.Chunks.{chunk_count, chunks_reported}

-- a refused table is told by its number alone
abbrev pub or_refused : Answer → ℕ → ℕ
or_refused T.Accepted x = x
or_refused (T.Refused n p) x = 2048 + n

abbrev pub report_asked : State → List ℕ → ℕ
report_asked s log = report_folded (chunks_reported s (fresh_tallies s) log (chunk_count log))

abbrev pub tally_asked : List ℕ → List ℕ → ℕ
tally_asked table log = or_refused (read_table table).answer (report_asked (started (read_table table).table).state log)
