-- What an answer says in the rules' terms.
use Rattle.std.specs.Prelude.{ℕ, List}

-- the refusal's number, 0 where nothing is refused, and the values that are handed over
pub record Said (A : Type 0) : Type 0 where
  pub number : ℕ
  pub values : List A
