-- What is ruled on an event, in the rules' terms.
use Rattle.std.specs.Prelude.{ℕ, Result, Ok, Err}
use Rattle.refusals.specs.declared.Refusal.{Refusal}
use Rattle.refusals.specs.Numbers.{number_of}
use Rattle.task_records.specs.declared.Record.{Record}

-- the refusal's number, or 0, and the task's record afterwards
pub record Ruling : Type 0 where
  pub refusal : ℕ
  pub after : Record

-- what the code answers of a record, in these terms: a refused event leaves the record as it stands
abbrev pub as_ruling : Record → Result Record Refusal → Ruling
as_ruling of (Ok after) = record { refusal = 0; after = after }
as_ruling of (Err r) = record { refusal = number_of r; after = of }
