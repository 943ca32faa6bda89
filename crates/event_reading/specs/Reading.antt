-- What reading one record says, in the rules' terms.
use Rattle.std.specs.Prelude.{ℕ, Option, Some, None, Result, Ok, Err}
use Rattle.refusals.specs.declared.Refusal.{Refusal}
use Rattle.refusals.specs.Numbers.{number_of}
use Rattle.event_reading.specs.declared.Event as D

-- an event, no bytes left, or a refusal with its number
pub data Reading : Type 0 where
  Event : D.Event → Reading
  End : Reading
  Refused : ℕ → Reading

-- what the code answers, in these terms
abbrev pub as_reading : Result (Option D.Event) Refusal → Reading
as_reading (Ok (Some e)) = Event e
as_reading (Ok None) = End
as_reading (Err r) = Refused (number_of r)
