-- Rules, "Window": released, met and missed, each counted from the events of a run, listed newest first.
use Rattle.std.specs.Prelude.{ℕ, ◌+◌, Bool, true, false, cond, List, [], ◌∷◌, eqb}
use Rattle.laws.specs.Numbers.{one_if}
use Rattle.event_reading.specs.declared.Event.{Event}
use Rattle.event_reading.specs.Event.{a_release}
use Rattle.state_rules.specs.declared.State.{State}
use Rattle.run_histories.specs.History.{run_record, is_accepted, closes, completes}

-- a release of task i
abbrev pub releases : Event → ℕ → Bool
releases e i = cond (eqb e.kind a_release) (eqb e.task i) false

-- the accepted releases of task i
unfoldable pub releases_of : State → List Event → ℕ → ℕ
releases_of s [] i = 0
releases_of s (e ∷ es) i = one_if (cond (is_accepted s es e) (releases e i) false) + releases_of s es i

-- its accepted completions
unfoldable pub completions_of : State → List Event → ℕ → ℕ
completions_of s [] i = 0
completions_of s (e ∷ es) i = one_if (cond (is_accepted s es e) (completes e i) false) + completions_of s es i

-- the events that closed its open job and were no completion of it
unfoldable pub losses_of : State → List Event → ℕ → ℕ
losses_of s [] i = 0
losses_of s (e ∷ es) i =
    one_if (cond (closes (run_record s es i) (run_record s (e ∷ es) i)) (cond (completes e i) false true) false) + losses_of s es i
