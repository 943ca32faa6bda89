-- What listing answers, in the rules' terms.
use Rattle.std.specs.Prelude.{ℕ, Result, Ok, Err}
use Rattle.refusals.specs.declared.Refusal.{Refusal}
use Rattle.refusals.specs.Numbers.{number_of}

-- how many of the lent bytes are the text, or a refusal with its number
pub data Listing : Type 0 where
  Text : ℕ → Listing
  Refused : ℕ → Listing

-- what the code answers, in these terms
abbrev pub as_listing : Result ℕ Refusal → Listing
as_listing (Ok n) = Text n
as_listing (Err r) = Refused (number_of r)
