-- `adding::add` meets its contract: the test of soundness gives what `put_in` asks for.
use mathlib.Core.Path.{sym, ◌∙◌}
use Rattle.tally_rules.proofs.Telling.{holds_sound}
use Rattle.tally_rules.proofs.adding.add.Goals as goal

pub put_in-requires : goal.put_in-requires
put_in-requires c = holds_sound c.args.tally (sym c.is_sound.ensures ∙ c.if-not-is_sound.false)
