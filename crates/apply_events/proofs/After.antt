-- The state after some events is sound where the one before them is, and counts as many tasks: each event keeps both.
use mathlib.Core.Path.{◌≡◌, refl, ◌∙◌}
use mathlib.Core.List.{List, [], ◌∷◌}
use Rattle.event_reading.specs.declared.Event.{Event}
use Rattle.state_rules.specs.declared.State.{State}
use Rattle.state_rules.specs.Sound.{StateSound}
use Rattle.apply_events.specs.Apply.{applied}
use Rattle.apply_events.specs.Log.{state_after}
use Rattle.apply_events.proofs.Frame.{count_stays}
use Rattle.apply_events.proofs.Kept.{applied_sound}

pub after_sound : (s : State) (es : List Event) → StateSound s → StateSound (state_after s es)
unfolding state_after
after_sound s [] p = p
after_sound s (e ∷ es) p = after_sound (applied s e).state es (applied_sound s p e)

pub after_count : (s : State) (es : List Event) → (state_after s es).count ≡ s.count
unfolding state_after
after_count s [] = refl
after_count s (e ∷ es) = after_count (applied s e).state es ∙ count_stays s e
