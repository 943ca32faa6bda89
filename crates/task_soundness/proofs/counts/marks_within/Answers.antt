-- `counts::marks_within` meets its contract: 64 places hold every word.
use mathlib.Core.Path.{sym, ◌∙◌}
use native.Mathlib.Nat.{lt_of_lt_of_le}
use borrow.Author.Tests.{le-leb, lt-ltb}
use lib.Pow.{pow_mono}
use Rattle.task_soundness.proofs.counts.marks_within.Goals as goal

pub returns-then-n-ge64 : goal.returns-then-n-ge64
returns-then-n-ge64 c =
    let h = c.if-n-ge64.true in
    le-leb _ _ h ∙ sym (lt-ltb _ _ (lt_of_lt_of_le c.ranges.marks.fits (pow_mono h)))
