-- What closing leaves: a miss that does not set back leaves the run below w, and no closed job is open. By cases of the tests.
use Prim.Native.Nat.{◌+◌, ◌<◌}
use mathlib.Core.Path.{◌≡◌, refl}
use mathlib.Core.Bool.{Bool, true, false, cond}
use borrow.Author.Tests.{leb-false}
use lib.Dec.{eqb, leb}
use Rattle.laws.proofs.Tests.{true_not_false}
use Rattle.task_levels.specs.Level.{class_of}
use Rattle.task_thresholds.specs.Thresholds.{w_of}
use Rattle.task_records.specs.declared.Record.{Record}
use Rattle.task_records.specs.Closing.{set_back, closed}

-- a miss that does not set back leaves the run below w
pub stays_below : (r : Record) → set_back r ≡ false → r.run + 1 < w_of r.task.m r.task.k
stays_below r e = go (eqb (class_of r.level) 0) e
  where
    go : (b : Bool) → cond b true (leb (w_of r.task.m r.task.k) (r.run + 1)) ≡ false → r.run + 1 < w_of r.task.m r.task.k
    go true q = absurd (true_not_false q)
    go false q = leb-false (w_of r.task.m r.task.k) (r.run + 1) q

pub closed_idle : (r : Record) (met : Bool) → (closed r met).live ≡ false
unfolding closed
closed_idle r true = refl
closed_idle r false = refl
