-- `join_cells` meets its contract: a turn of the loop is a clause of the test and of the filled cells.
use mathlib.Core.Path.{◌≡◌, refl}
use native.Mathlib.Numerals.{add-one}
use native.Mathlib.Omega.{arith}
use borrow.Author.Tests.{le-leb}
use Rattle.tally_rules.specs.Tally.{cell_count, most_tallied}
use Rattle.tally_sums.specs.Joining.{both, sums_within}
use Rattle.tally_sums.proofs.Cells.{more-joined}
use Rattle.tally_sums.proofs.Joining.{sums_fail}
use Rattle.tally_sums.proofs.join_cells.Goals as goal

pub loop-c-init : goal.loop-c-init
unfolding sums_within
loop-c-init c = record { within = refl; joined = c.numbers-tally.ensures }

pub overflow_add-joint : goal.overflow_add-joint
overflow_add-joint c =
    omega (arith, c.requires.0.cells c.loop-c.c c.loop-c-test.true, c.requires.1.cells c.loop-c.c c.loop-c-test.true)

pub returns-then-joint-gt-MOST_TALLIED : goal.returns-then-joint-gt-MOST_TALLIED
returns-then-joint-gt-MOST_TALLIED c =
    let s = c.args in
    rw (sums_fail s.a s.b cell_count c.loop-c.c c.loop-c-test.true c.if-joint-gt-MOST_TALLIED.true)

pub loop-c-preserved : goal.loop-c-preserved
unfolding sums_within
loop-c-preserved c =
    let l = c.loop-c in
    let s = c.args in
    record {
      within = rw (add-one l.c, l.invariant.within) (le-leb _ most_tallied c.if-joint-gt-MOST_TALLIED.false);
      joined = rw (add-one l.c) (more-joined s.a s.b l.tally l.c l.invariant.joined);
    }

pub returns : goal.returns
unfolding both
returns c =
    let l = c.loop-c in
    let e : cell_count ≡ l.c = omega arith in
    rw (e, l.invariant.within, l.invariant.joined)
