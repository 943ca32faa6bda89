-- What ended the reading of a log, in the rules' terms.
use Rattle.std.specs.Prelude.{ℕ, Result, Ok, Err}
use Rattle.refusals.specs.Numbers.{number_of}
use Rattle.event_logs.specs.declared.Stop.{Stop}

-- no bytes left, or a refusal's number and the offset of the record that does not read
pub data Ending : Type 0 where
  Whole : Ending
  Stopped : ℕ → ℕ → Ending

-- what the code answers, in these terms
abbrev pub as_ending : Result Unit Stop → Ending
as_ending (Ok u) = Whole
as_ending (Err s) = Stopped (number_of s.refusal) s.offset
