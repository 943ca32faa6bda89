-- Rules, "Order of refusals": 15 if asked of a state, then as asked of the table that its tasks make.
use Rattle.std.specs.Prelude.{ℕ, cond, List, replicate}
use Rattle.laws.specs.Stores.{filled}
use Rattle.table_rules.specs.declared.Table.{Table}
use Rattle.table_rules.specs.Answers.{Answer}
use Rattle.table_rules.specs.Limits.{place_count}
use Rattle.table_rules.specs.Rules.{no_task}
use Rattle.state_rules.specs.declared.State.{State}
use Rattle.state_rules.specs.State.{record_at}
use Rattle.state_rules.specs.Sound.{state_holds}
use Rattle.bound_one.specs.Bound.{Bound}
use Rattle.bound_one.specs.Asked.{one_answer}
use Rattle.bound_all.specs.Asked.{all_answer, all_cells}

-- the table that a state's tasks make
abbrev pub table_in : State → Table
table_in s = record { count = s.count; tasks = filled (λ i. (record_at s i).task) s.count (replicate place_count no_task) }

unfoldable pub one_of_state : State → ℕ → Bound
one_of_state s k = cond (state_holds s) (one_answer (table_in s) k) (Bound.Refused 15 0)

unfoldable pub all_of_state : State → ℕ → Answer
all_of_state s room = cond (state_holds s) (all_answer (table_in s) room) (Answer.Refused 15 0)

-- the lent cells afterwards
unfoldable pub cells_of_state : State → List ℕ → List ℕ
cells_of_state s cells = cond (state_holds s) (all_cells (table_in s) cells) cells
