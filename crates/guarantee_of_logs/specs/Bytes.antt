-- What the guarantee for bytes asks of them: that the table reads, and the log to its end.
use Rattle.std.specs.Prelude.{ℕ, ◌≡◌, List}
use Rattle.table_rules.specs.Answers.{Accepted}
use Rattle.table_reading.specs.Table.{read_table}
use Rattle.event_logs.specs.Stops.{Whole}
use Rattle.event_logs.specs.Ending.{ending_of}

pub record BothRead (table log : List ℕ) : Type 0 where
  pub tabled : (read_table table).answer ≡ Accepted
  pub whole : ending_of log ≡ Whole
