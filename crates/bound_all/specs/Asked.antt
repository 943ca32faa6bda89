-- Rules, "Order of refusals", where all are asked of a table: the table's own refusal, then 14, then 13 at the first position that has none.
-- The output holds one number per task, cells past the count stay, and a refusal leaves all.
use Rattle.std.specs.Prelude.{ℕ, cond, List, leb, length}
use Rattle.laws.specs.Stores.{filled}
use Rattle.table_rules.specs.declared.Table.{Table}
use Rattle.table_rules.specs.Answers.{Answer}
use Rattle.table_rules.specs.Judging.{judged, first_fault}
use Rattle.bound_search.specs.Answers.{found_number, found_value}
use Rattle.bound_search.specs.Bound.{bound_of}

-- the table's own refusal comes first
abbrev pub own_then_all : Answer → Answer → Answer
own_then_all Answer.Accepted a = a
own_then_all (Answer.Refused n p) a = Answer.Refused n p

-- 13 where a position has no bound
abbrev pub bound_fault : Table → ℕ → ℕ
bound_fault t i = found_number (bound_of t i)

abbrev pub bound_cell : Table → ℕ → ℕ
bound_cell t i = found_value (bound_of t i)

-- 14 where the lent cells are too few, then 13 at the first position that has no bound
abbrev pub all_answer : Table → ℕ → Answer
all_answer t room =
    own_then_all (judged t) (cond (leb t.count room) (first_fault (bound_fault t) t.count) (Answer.Refused 14 0))

-- the lent cells afterwards
abbrev pub left_by : Answer → Table → List ℕ → List ℕ
left_by Answer.Accepted t cells = filled (bound_cell t) t.count cells
left_by (Answer.Refused n p) t cells = cells

abbrev pub all_cells : Table → List ℕ → List ℕ
all_cells t cells = left_by (all_answer t (length cells)) t cells
