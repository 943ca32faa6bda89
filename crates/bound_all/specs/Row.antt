-- All bounds worked out in a row of the library's own, before any lent cell is written.
use Rattle.std.specs.Prelude.{ℕ, ◌<◌, ◌≡◌, List, get_or, Result, Ok, Err, IfOk}
use Rattle.refusals.specs.Numbers.{number_of}
use Rattle.table_rules.specs.declared.Table.{Table}
use Rattle.table_rules.specs.declared.Refused as D
use Rattle.table_rules.specs.Answers.{Answer, Accepted, Refused}
use Rattle.table_rules.specs.Judging.{first_fault}
use Rattle.bound_all.specs.Asked.{bound_fault, bound_cell}

-- the answer beside the row, in the rules' terms
abbrev pub row_answer : Result (List ℕ) D.Refused → Answer
row_answer (Ok cells) = Accepted
row_answer (Err r) = Refused (number_of r.refusal) r.position

-- 13 at the first position that has none, else a bound in each cell
pub record RowOf (t : Table) (r : Result (List ℕ) D.Refused) : Type 0 where
  pub answer : row_answer r ≡ first_fault (bound_fault t) t.count
  pub cells : IfOk r (λ cells. (i : ℕ) → i < t.count → get_or cells i 0 ≡ bound_cell t i)
