-- `counts_text` meets its contract: the three counts, one behind another.
use mir.Val.{bool_byte}
use mathlib.Core.Path.{◌≡◌, refl, ◌∙◌}
use mathlib.Core.Bool.{Bool, true, false, cond}
use Rattle.text_writing.proofs.Putting.{then_put}
use Rattle.listing_last_line.proofs.counts_text.Goals as goal

-- a job that is open counts as 1
opened : (b : Bool) → bool_byte b ≡ cond b 1 0
opened true = refl
opened false = refl

pub returns : goal.returns
returns c =
    let e = c.from.ensures ∙ opened c.args.record.live in
    then_put c.field.ensures (then_put c.field-2.ensures (rw e at c.field-3.ensures))
