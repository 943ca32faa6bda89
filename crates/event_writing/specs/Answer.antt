-- What writing one record says, in the rules' terms.
use Rattle.std.specs.Prelude.{ℕ, Result, Ok, Err}
use Rattle.refusals.specs.declared.Refusal.{Refusal}
use Rattle.refusals.specs.Numbers.{number_of}

pub data Writing : Type 0 where
  Whole : Writing
  Refused : ℕ → Writing

-- what the code answers, in these terms
abbrev pub as_writing : Result Unit Refusal → Writing
as_writing (Ok u) = Whole
as_writing (Err r) = Refused (number_of r)
