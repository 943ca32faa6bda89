-- `sound::is_sound` meets its contract: within the limits, by the records' own test.
use Prim.Native.Nat.{◌≤◌}
use mathlib.Core.Path.{◌∙◌}
use native.Mathlib.Omega.{arith}
use borrow.Author.Tests.{le-leb}
use lib.ListN.{length}
use Rattle.table_rules.specs.Limits.{most_tasks}
use Rattle.state_rules.specs.Sound.{limit, state_holds}
use Rattle.state_rules.proofs.Each.{each_is}
use Rattle.state_rules.proofs.sound.is_sound.Goals as goal

pub returns-then-state-le-LIMIT : goal.returns-then-state-le-LIMIT
unfolding state_holds
returns-then-state-le-LIMIT c =
    let s = c.args.state in
    let h : s.count ≤ length s.records = omega arith in
    rw (le-leb 1 s.count (omega arith), le-leb s.count most_tasks (omega arith), le-leb s.clock limit (omega arith))
    (c.all_sound.ensures ∙ each_is s.records s.clock s.count h)
