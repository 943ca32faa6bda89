-- A run may be told oldest first: applying the events in that order reaches the state after the same events listed newest first.
use mathlib.Core.Path.{◌≡◌, refl}
use mathlib.Core.List.{List, [], ◌∷◌}
use Rattle.event_reading.specs.declared.Event.{Event}
use Rattle.state_rules.specs.declared.State.{State}
use Rattle.apply_events.specs.Log.{state_after}
use Rattle.run_histories.specs.History.{run_state}

-- events told oldest first, put in front of those before them
abbrev pub onto : List Event → List Event → List Event
onto [] past = past
onto (e ∷ es) past = onto es (e ∷ past)

pub told_in_order : (s : State) (es past : List Event) → state_after (run_state s past) es ≡ run_state s (onto es past)
unfolding run_state state_after
told_in_order s [] past = refl
told_in_order s (e ∷ es) past = told_in_order s es (e ∷ past)
