-- The invariant of `rules::judge`: no position that was passed has a fault.
use Rattle.std.proofs.Common.{◌≡◌}
use Rattle.table_rules.specs.Answers.{Accepted}
use Rattle.table_rules.specs.Judging.{first_fault, fault_at}
use Rattle.table_rules.proofs.rules.judge.Given as goal

abbrev pub invariant-loop-position : goal.invariant-loop-position
invariant-loop-position l = first_fault (fault_at l.table) l.position ≡ Accepted
