-- Rules, "The listing": one line per task, before the events and after them.
use Rattle.std.specs.Prelude.{ℕ, zero, suc, List, [], ◌++◌, get_or}
use Rattle.table_rules.specs.declared.Table.{Table}
use Rattle.table_rules.specs.Rules.{no_task}
use Rattle.bound_one.specs.Asked.{one_answer}
use Rattle.state_rules.specs.declared.State.{State}
use Rattle.state_rules.specs.State.{record_at}
use Rattle.listing_text.specs.TaskLines.{task_line, last_line}

-- one line per task: the first n of a table
unfoldable pub task_lines : Table → ℕ → List ℕ
task_lines t zero = []
task_lines t (suc n) = task_lines t n ++ task_line n (get_or t.tasks n no_task) (one_answer t n)

-- then one line per task: the first n of a state
unfoldable pub last_lines : State → ℕ → List ℕ
last_lines s zero = []
last_lines s (suc n) = last_lines s n ++ last_line n (record_at s n)
