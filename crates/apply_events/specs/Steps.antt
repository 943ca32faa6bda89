-- Rules, "Events and the clock", step 1.
use Rattle.std.specs.Prelude.{ℕ, List}
use Rattle.laws.specs.Stores.{filled}
use Rattle.task_records.specs.declared.Record.{Record}
use Rattle.task_steps.specs.Opening.{expired}
use Rattle.state_rules.specs.declared.State.{State}
use Rattle.state_rules.specs.State.{record_at}

-- step 1: every open job with deadline below t is closed as missed; places past the last task stay
abbrev pub expired_all : State → ℕ → List Record
expired_all s t = filled (λ i. expired (record_at s i) t) s.count s.records
