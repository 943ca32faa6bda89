-- What starting from a table answers: the table's own answer, and the state beside it.
use Rattle.table_rules.specs.Answers.{Answer}
use Rattle.state_rules.specs.declared.State.{State}

pub record Started : Type 0 where
  pub answer : Answer
  pub state : State
