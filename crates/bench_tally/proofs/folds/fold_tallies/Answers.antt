-- `fold_tallies` meets its contract: so far the tallies before this one are folded.
use Prim.Native.Nat.{min, ◌<◌}
use mathlib.Core.Path.{◌≡◌, refl}
use native.Mathlib.Numerals.{add-one}
use native.Mathlib.Omega.{arith}
use lib.ListN.{get_or, take, length-take}
use Rattle.std.proofs.lemmas.List.{get_or-take}
use Rattle.tally_rules.specs.declared.Tally.{Tally}
use Rattle.tally_rules.specs.Tally.{no_tally}
use Rattle.bench_tally.specs.Folds.{tallies_folded}
use Rattle.bench_tally.proofs.folds.fold_tallies.Goals as goal

pub loop-tally-init : goal.loop-tally-init
unfolding tallies_folded
loop-tally-init c = refl

pub loop-tally-preserved : goal.loop-tally-preserved
unfolding tallies_folded
loop-tally-preserved c =
    let l = c.loop-tally in
    let row = c.args.of.row in
    let h : l.tally-index < c.places.result = omega (arith, length-take {A = Tally}, c.loop-tally-test.true) in
    let e : get_or (take c.places.result row) l.tally-index no_tally ≡ get_or row l.tally-index no_tally =
    get_or-take c.places.result row l.tally-index no_tally h in
    rw (add-one, c.fold_tally-folded.ensures, e, l.invariant)

pub returns : goal.returns
returns c =
    let l = c.loop-tally in
    let e : l.tally-index ≡ min c.args.count 16 = omega (arith, length-take {A = Tally}) in
    rw e at l.invariant
