-- Rules, "Chosen time": demand 3's premise, event by event in the order of the log. `premise_either_way` shows that it is the one of `guarantee`.
use Rattle.std.specs.Prelude.{ℕ, ◌≤◌, ◌<◌, ◌≡◌, true, List, length}
use Rattle.event_reading.specs.declared.Event.{Event}
use Rattle.state_rules.specs.declared.State.{State}
use Rattle.guarantee.specs.Premise.{Waits}
use Rattle.guarantee_of_logs.specs.Places.{event_at, record_after, accepted_at}
use Rattle.guarantee_of_logs.specs.ChosenTime.{open_after}

-- what event n owes to each job that is open as it arrives: not after a tick x at which C is reached, and before x if it is a release
abbrev pub TimelyAt : State → List Event → ℕ → Type 0
TimelyAt s es n =
    (i x : ℕ) → i < s.count → (record_after s es n i).live ≡ true → (record_after s es n i).task.c ≤ open_after s es n i x
    → Waits (event_at es n) x

-- every accepted event of the log is timely
abbrev pub LogObeys : State → List Event → Type 0
LogObeys s es = (n : ℕ) → n < length es → accepted_at s es n ≡ true → TimelyAt s es n
