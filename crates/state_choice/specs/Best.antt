-- The best open job so far, in numbers: its key and its position, both 0 where there is none.
use Rattle.std.specs.Prelude.{ℕ, Bool, true, false, Option, Some, None}
use Rattle.state_choice.specs.declared.Best as D

pub record Best : Type 0 where
  pub found : Bool
  pub key : ℕ
  pub at : ℕ

-- what the code answers, in these terms
abbrev pub as_best : Option D.Best → Best
as_best None = record { found = false; key = 0; at = 0 }
as_best (Some b) = record { found = true; key = b.key; at = b.at }
