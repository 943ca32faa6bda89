-- The rules' number and position for each case of an answer about a table.
use Rattle.std.specs.Prelude.{ℕ, Result, Ok, Err}
use Rattle.refusals.specs.Numbers as N
use Rattle.table_rules.specs.declared.Refused as D

-- accepted, or refused with a number and a position
pub data Answer : Type 0 where
  Accepted : Answer
  Refused : ℕ → ℕ → Answer

-- what the code answers, in these terms
abbrev pub as_answer : Result Unit D.Refused → Answer
as_answer (Ok u) = Accepted
as_answer (Err r) = Refused (N.number_of r.refusal) r.position

-- 0 where nothing is refused: no refusal has that number
abbrev pub number_of : Answer → ℕ
number_of Accepted = 0
number_of (Refused n p) = n

abbrev pub position_of : Answer → ℕ
position_of Accepted = 0
position_of (Refused n p) = p
