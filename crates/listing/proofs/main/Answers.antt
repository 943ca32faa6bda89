-- `main` meets its contract: what is listed is within what was read, and what is printed within the text that was lent.
use Rattle.std.proofs.Common.{arith, sym}
use Rattle.std.proofs.lemmas.List.{length-take-le}
use Rattle.listing_of_input.proofs.Told.{text_within}
use Rattle.listing.proofs.main.Goals as goal

pub slice_bounds-text-end : goal.slice_bounds-text-end
slice_bounds-text-end c = omega (arith, c.list.auto.out, text_within _ _ c.in-Ok-list.end (sym c.in-Ok-list.ensures.0))

pub slice_bounds-printed-end : goal.slice_bounds-printed-end
slice_bounds-printed-end c =
    sym (length-take-le _ _ (omega (arith, c.list.auto.out, text_within _ _ c.in-Ok-list.end (sym c.in-Ok-list.ensures.0))))
