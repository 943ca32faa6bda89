-- Rules, "Order of refusals", for tables: 1 first, then task by task the first fault, with its position.
use Rattle.std.specs.Prelude.{ℕ, zero, suc, Bool, cond, get_or}
use Rattle.table_rules.specs.declared.Table.{Table}
use Rattle.table_rules.specs.Answers.{Answer}
use Rattle.table_rules.specs.Answers.{Accepted, Refused}
use Rattle.table_rules.specs.Rules.{task_fault, count_holds, no_task}

-- a refusal stands; after none, a fault at position i is refused there
abbrev pub or_else : Answer → ℕ → ℕ → Answer
or_else Accepted zero i = Accepted
or_else Accepted (suc n) i = Refused (suc n) i
or_else (Refused n p) f i = Refused n p

-- the first fault of the first n positions, where f gives each position's number, 0 for none
unfoldable pub first_fault : (ℕ → ℕ) → ℕ → Answer
first_fault f zero = Accepted
first_fault f (suc n) = or_else (first_fault f n) (f n) n

-- 1 at position 0 where the count's test fails, before all else
abbrev pub one_then : Bool → (ℕ → ℕ) → ℕ → Answer
one_then b f n = cond b (first_fault f n) (Refused 1 0)

abbrev pub fault_at : Table → ℕ → ℕ
fault_at t i = task_fault (get_or t.tasks i no_task)

unfoldable pub judged : Table → Answer
judged t = one_then (count_holds t.count) (fault_at t) t.count
