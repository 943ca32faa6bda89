-- What a record and a table read as, in the rules' terms, with the number and the values of each case.
use Rattle.std.specs.Prelude.{ℕ, [], ◌∷◌, Result, Ok, Err}
use Rattle.laws.specs.Said.{Said}
use Rattle.refusals.specs.declared.Refusal.{Refusal}
use Rattle.refusals.specs.Numbers.{number_of}
use Rattle.table_rules.specs.declared.Task as T
use Rattle.table_rules.specs.declared.Table.{Table}
use Rattle.table_rules.specs.Answers.{Answer}

-- a task, or a refusal with its number
pub data Row : Type 0 where
  Task : T.Task → Row
  Refused : ℕ → Row

-- the answer, and the table beside it
pub record TableRead : Type 0 where
  pub answer : Answer
  pub table : Table

-- what the code answers, in these terms
abbrev pub as_row : Result T.Task Refusal → Row
as_row (Ok t) = Task t
as_row (Err r) = Refused (number_of r)

-- the task that is handed over
abbrev pub row_said : Row → Said T.Task
row_said (Task t) = record { number = 0; values = t ∷ [] }
row_said (Refused n) = record { number = n; values = [] }
