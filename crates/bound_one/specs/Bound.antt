-- What is answered where one task's bound is asked, in the rules' terms.
use Rattle.std.specs.Prelude.{ℕ, Result, Ok, Err}
use Rattle.refusals.specs.Numbers.{number_of}
use Rattle.table_rules.specs.declared.Refused as D

-- the bound, or a refusal with its number and position
pub data Bound : Type 0 where
  At : ℕ → Bound
  Refused : ℕ → ℕ → Bound

-- what the code answers, in these terms
abbrev pub as_bound : Result ℕ D.Refused → Bound
as_bound (Ok r) = At r
as_bound (Err e) = Refused (number_of e.refusal) e.position
