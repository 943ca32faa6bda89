-- A lent row of records and a clock stand for a state that counts the row's records, and a state's tasks are a row.
use Rattle.std.specs.Prelude.{ℕ, Bool, false, cond, List, leb, length, take}
use Rattle.table_rules.specs.Rules.{count_holds}
use Rattle.task_records.specs.declared.Record.{Record}
use Rattle.state_choice.specs.Least.{Least}
use Rattle.state_rules.specs.declared.State.{State}
use Rattle.state_rules.specs.Sound.{limit}

abbrev pub state_of : List Record → ℕ → State
state_of l clock = record { count = length l; clock = clock; records = l }

abbrev pub row_of : State → List Record
row_of s = take s.count s.records

-- 1 to 16 tasks, and the clock within the limit
abbrev pub admitted : ℕ → ℕ → Bool
admitted count clock = cond (count_holds count) (leb clock limit) false

-- the rules' choice over a whole row
abbrev pub LeastIn : List Record → ℕ → Type 0
LeastIn l p = Least l (length l) p
