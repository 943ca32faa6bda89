-- What an event comes to over a lent row, in the rules' terms.
use Rattle.std.specs.Prelude.{ℕ}
use Rattle.apply_events.specs.Answer.{Answer, as_told}
use Rattle.lent_answers.specs.declared.Turn as D

pub record Turn : Type 0 where
  pub answer : Answer
  pub clock : ℕ

-- what the code answers, in these terms
abbrev pub as_turn : D.Turn → Turn
as_turn t = record { answer = as_told t.answer; clock = t.clock }
