-- The table of a sound state obeys the rules, so that after 15 no refusal of a table is left: each record's task does.
use Prim.Native.Nat.{◌≤◌}
use mathlib.Core.Bool.{true}
use mathlib.Core.Path.{◌≡◌, ap, ◌∙◌}
use lib.ListN.{replicate}
use Rattle.laws.proofs.Stores.{filled_below}
use Rattle.table_rules.specs.Answers.{Accepted}
use Rattle.table_rules.specs.Rules.{task_fault, no_task}
use Rattle.table_rules.specs.Judging.{judged}
use Rattle.table_rules.proofs.Exactly.{judged_accepted}
use Rattle.state_rules.specs.declared.State.{State}
use Rattle.state_rules.specs.State.{record_at}
use Rattle.state_rules.specs.Sound.{StateSound, state_holds}
use Rattle.state_rules.proofs.Sounding.{state_tells}
use Rattle.bound_of_state.specs.Asked.{table_in}

pub table_accepted : (s : State) → StateSound s → judged (table_in s) ≡ Accepted
table_accepted s p =
    (judged_accepted (table_in s)).1 (
      p.counted,
      λ i h. ap task_fault (filled_below (λ j. (record_at s j).task) (replicate 16 no_task) no_task s.count i p.counted.most h) ∙ (p.each i h).ruled,
    )

-- a sound state has no more tasks than places
pub few : (s : State) → state_holds s ≡ true → s.count ≤ 16
few s e = ((state_tells s).holds e).counted.most
