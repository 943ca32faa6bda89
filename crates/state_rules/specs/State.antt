-- A fresh state of a table: places past the last task are zero.
use Rattle.std.specs.Prelude.{ℕ, get_or, replicate, Result, Ok, Err}
use Rattle.laws.specs.Stores.{filled}
use Rattle.table_rules.specs.Answers.{Answer}
use Rattle.table_rules.specs.Answers.{Accepted, Refused}
use Rattle.refusals.specs.Numbers.{number_of}
use Rattle.table_rules.specs.declared.Table.{Table}
use Rattle.table_rules.specs.declared.Refused as D
use Rattle.table_rules.specs.Limits.{place_count}
use Rattle.table_rules.specs.Rules.{no_task}
use Rattle.table_rules.specs.Judging.{judged}
use Rattle.task_records.specs.declared.Record.{Record}
use Rattle.task_steps.specs.Opening.{fresh, no_record}
use Rattle.state_rules.specs.declared.State.{State}
use Rattle.state_rules.specs.Started.{Started}

-- the record at a position
abbrev pub record_at : State → ℕ → Record
record_at s i = get_or s.records i no_record

abbrev pub no_state : State
no_state = record { count = 0; clock = 0; records = replicate place_count no_record }

-- the clock starts at 0
abbrev pub fresh_state : Table → State
fresh_state t =
    record {
      count = t.count;
      clock = 0;
      records = filled (λ i. fresh (get_or t.tasks i no_task)) t.count (replicate place_count no_record);
    }

-- what the code answers, in these terms: no state is handed over where the table is refused
abbrev pub as_started : Result State D.Refused → Started
as_started (Ok s) = record { answer = Accepted; state = s }
as_started (Err r) = record { answer = Refused (number_of r.refusal) r.position; state = no_state }

abbrev pub started_by : Answer → Table → Started
started_by Accepted t = record { answer = Accepted; state = fresh_state t }
started_by (Refused n p) t = record { answer = Refused n p; state = no_state }

unfoldable pub started : Table → Started
started t = started_by (judged t) t
