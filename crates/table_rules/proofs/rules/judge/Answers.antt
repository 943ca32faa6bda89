-- `rules::judge` meets its contract: a fault that is met is the first, since no position before it has one.
use native.Mathlib.Omega.{arith}
use Rattle.table_rules.proofs.Answers.{judged_here}
use Rattle.table_rules.proofs.rules.judge.Goals as goal

pub returns-in-Err : goal.returns-in-Err
returns-in-Err c =
    judged_here c.args.table c.loop-position.position c.in-Err.refusal (grind arith) (grind arith) c.loop-position-test.true c.loop-position.invariant
    c.in-Err.ensures
