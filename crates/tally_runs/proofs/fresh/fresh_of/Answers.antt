-- `fresh::fresh_of` meets its contract: the row is filled from the front with fresh tallies.
use mathlib.Core.Path.{◌≡◌}
use native.Mathlib.Numerals.{add-one}
use native.Mathlib.Omega.{arith}
use Rattle.laws.specs.Stores.{filled}
use Rattle.tally_histories.specs.Sound.{fresh_tallies}
use Rattle.tally_runs.proofs.fresh.fresh_of.Goals as goal

pub loop-i-init : goal.loop-i-init
unfolding filled
loop-i-init c = rw c.fresh-row.ensures

pub loop-i-preserved : goal.loop-i-preserved
unfolding filled
loop-i-preserved c = rw (c.loop-i.invariant, c.fresh.ensures, add-one)

pub returns : goal.returns
unfolding fresh_tallies
returns c =
    let l = c.loop-i in
    let e : l.i ≡ 16 = omega arith in
    rw (← e) (rw l.invariant)
