-- `log::stand` meets its contract: the best of the tasks that the state counts is told.
use Prim.Native.Nat.{◌<◌}
use native.Mathlib.Omega.{arith}
use Rattle.apply_engine.proofs.Settled.{best_placed}
use Rattle.apply_engine.proofs.log.stand.Goals.{After-place}
use Rattle.apply_engine.proofs.log.stand.Goals as goal

placed : (c : After-place) → c.place.result < 16
placed c = let s = c.args.state in rw (c.place.ensures, c.choose-best.ensures) (best_placed s.records s.count c.requires.counted.one)

pub offset_bounds-state-place : goal.offset_bounds-state-place
offset_bounds-state-place c = omega (arith, placed c)

pub bounds-state-place : goal.bounds-state-place
bounds-state-place c = placed c
