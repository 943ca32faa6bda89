-- `apply::apply` meets its contract: a state that is not sound goes no further.
use mathlib.Core.Path.{sym, ◌∙◌}
use Rattle.state_rules.proofs.Sounding.{state_tells}
use Rattle.apply_events.specs.Apply.{applied}
use Rattle.apply_engine.proofs.apply.apply.Goals as goal

pub act-answer-requires : goal.act-answer-requires
act-answer-requires c = (state_tells c.args.state).holds (sym c.is_sound.ensures ∙ c.if-is_sound.true)

pub returns-else-is_sound : goal.returns-else-is_sound
unfolding applied
returns-else-is_sound c = rw (sym c.is_sound.ensures ∙ c.if-is_sound.false)
