-- Rules, "Order of refusals", where one task's bound is asked of a table: the table's own refusal, then 10, then 13.
use Rattle.std.specs.Prelude.{ℕ, cond, ltb, Option, Some, None}
use Rattle.table_rules.specs.declared.Table.{Table}
use Rattle.table_rules.specs.Answers.{Answer}
use Rattle.table_rules.specs.Judging.{judged}
use Rattle.bound_search.specs.Answers.{found_number}
use Rattle.bound_search.specs.Bound.{bound_of}
use Rattle.bound_one.specs.Bound.{Bound}

-- the bound, or 13 at the position that has none
abbrev pub or_thirteen : Option ℕ → ℕ → Bound
or_thirteen (Some r) k = Bound.At r
or_thirteen None k = Bound.Refused (found_number None) k

-- the table's own refusal comes first
abbrev pub own_then_one : Answer → Bound → Bound
own_then_one Answer.Accepted b = b
own_then_one (Answer.Refused n p) b = Bound.Refused n p

unfoldable pub one_answer : Table → ℕ → Bound
one_answer t k = own_then_one (judged t) (cond (ltb k t.count) (or_thirteen (bound_of t k) k) (Bound.Refused 10 k))
