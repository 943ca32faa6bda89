-- `search::search` meets its contract: R is at most every number that fits, so the first R that fits is the smallest, and past the deadline there is none.
-- Each turn raises R.
use mathlib.Core.Path.{sym}
use native.Mathlib.Nat.{le_trans}
use native.Mathlib.Omega.{arith}
use Rattle.bound_demand.specs.Load.{load_demand}
use Rattle.bound_search.proofs.Fits.{fit_at, fit_none}
use Rattle.bound_demand.proofs.Rising.{load_mono, load_own}
use Rattle.bound_search.proofs.search.search.Goals as goal

pub loop-r-init : goal.loop-r-init
loop-r-init c =
    record {
      some = rw c.from-r.ensures c.requires.0.some;
      least = λ x p q. rw c.from-r.ensures (le_trans (load_own c.args.load.now x) q);
    }

pub loop-r-preserved : goal.loop-r-preserved
loop-r-preserved c =
    let l = c.loop-r in
    record {
      some = omega arith;
      least = λ x p q. rw c.demand-next.ensures (le_trans (load_mono c.args.load.now c.requires.0 l.r x (l.invariant.least x p q)) q);
    }

pub returns-then-next-r : goal.returns-then-next-r
returns-then-next-r c =
    let l = c.loop-r in
    sym
    (fit_at (load_demand c.args.load.now) c.args.deadline l.r
    (record {
      some = l.invariant.some;
      within = omega arith;
      fits = rw c.demand-next.ensures at c.if-next-r.true;
      least = λ x p h q. l.invariant.least x p q;
    }))

pub returns-then-limit-r : goal.returns-then-limit-r
returns-then-limit-r c =
    sym (fit_none (load_demand c.args.load.now) c.args.deadline (λ x p h q. omega (arith, c.loop-r.invariant.least x p q)))
