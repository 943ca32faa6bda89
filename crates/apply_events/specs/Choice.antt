-- Rules, "Choice", as a sentence on a state's answer. `choice_exactly` shows that it is the answer of every accepted event.
use Rattle.std.specs.Prelude.{ℕ, [], ◌∷◌}
use Rattle.laws.specs.Said.{Said}
use Rattle.state_choice.specs.Least.{Least, NoneOpen}
use Rattle.state_rules.specs.declared.State.{State}
use Rattle.state_rules.specs.State.{record_at}

pub data Chooses (q : State) : Said ℕ → Type 0 where
  -- the open job that is least by class, then by D, then by table position, with its class
  runs : (p : ℕ) → Least q.records q.count p → Chooses q (record { number = 0; values = p ∷ (record_at q p).class ∷ [] })
  -- or none
  idles : NoneOpen q.records q.count → Chooses q (record { number = 0; values = [] })
