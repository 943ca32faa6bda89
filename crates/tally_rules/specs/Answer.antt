-- What an addition answers, in the rules' terms.
use Rattle.std.specs.Prelude.{ℕ, Result, Ok, Err}
use Rattle.refusals.specs.declared.Refusal.{Refusal}
use Rattle.refusals.specs.Numbers.{number_of}
use Rattle.tally_rules.specs.declared.Tally.{Tally}

-- accepted, or refused with a number
pub data Answer : Type 0 where
  Accepted : Answer
  Refused : ℕ → Answer

-- the tally beside the answer: as given where it is refused
pub record Tallied : Type 0 where
  pub answer : Answer
  pub tally : Tally

-- what the code answers of a tally, in these terms
abbrev pub as_tallied : Tally → Result Tally Refusal → Tallied
as_tallied t (Ok x) = record { answer = Accepted; tally = x }
as_tallied t (Err r) = record { answer = Refused (number_of r); tally = t }
