-- `join` meets its contract: the tests of soundness give what `join_sound` asks for.
use mathlib.Core.Path.{sym, ◌∙◌}
use Rattle.tally_rules.proofs.Telling.{holds_sound}
use Rattle.tally_sums.proofs.join.Goals as goal

pub join_sound-requires : goal.join_sound-requires
join_sound-requires c = (
  holds_sound c.args.a (sym c.is_sound.ensures ∙ c.if-not-is_sound.false),
  holds_sound c.args.b (sym c.is_sound-else-not-is_sound.ensures ∙ c.if-not-is_sound-2.false),
)
