-- The counts of a record are those of its outcomes: a job closes only while it is open, and no release passes the end of 64 bits.
use Prim.Native.Nat.{◌+◌, ◌-◌, ◌^◌, ◌≤◌}
use mathlib.Core.Path.{◌≡◌, refl}
use mathlib.Core.Bool.{Bool, true, false}
use mathlib.Core.List.{List, [], ◌∷◌}
use native.Mathlib.Omega.{arith}
use lib.ListN.{length}
use Rattle.laws.specs.Numbers.{one_if}
use Rattle.table_rules.specs.declared.Task.{Task}
use Rattle.task_records.specs.declared.Record.{Record}
use Rattle.task_records.specs.Closing.{closed}
use Rattle.task_records.proofs.Steps.{closed_idle}
use Rattle.task_steps.specs.Opening.{fresh, opened}
use Rattle.run_windows.specs.Outcomes.{mets, misses}
use Rattle.run_windows.specs.History.{History, start, release, close}

pub together : (os : List Bool) → mets os + misses os ≡ length os
together [] = refl
together (true ∷ os) = omega (arith, together os)
together (false ∷ os) = omega (arith, together os)

pub record Counts (task : Task) (os : List Bool) (r : Record) : Type 0 where
  pub same : r.task ≡ task
  pub met : r.met ≡ mets os
  pub missed : r.missed ≡ misses os
  pub released : r.released ≡ length os + one_if r.live
  pub fits : r.released ≤ 2 ^ 64 - 1

module _ {task : Task} where
  pub counts : {os : List Bool} {r : Record} → History task os r → Counts task os r
  unfolding opened closed
  counts start = record { same = refl; met = refl; missed = refl; released = refl; fits = omega arith }
  counts (release t idle room h) =
      let c = counts h in
      let e = rw idle at c.released in
      record { same = c.same; met = c.met; missed = c.missed; released = omega arith; fits = omega arith }
  counts (close {os = os} true live h) =
      let c = counts h in
      let e = rw live at c.released in
      record { same = c.same; met = omega (arith, together os); missed = c.missed; released = omega arith; fits = c.fits }
  counts (close {os = os} false live h) =
      let c = counts h in
      let e = rw live at c.released in
      record { same = c.same; met = c.met; missed = omega (arith, together os); released = omega arith; fits = c.fits }

  -- in any history, released = met + missed + open
  pub released_is : {os : List Bool} {r : Record} → History task os r → r.released ≡ r.met + r.missed + one_if r.live
  released_is {os = os} h = let c = counts h in omega (arith, together os)

  -- any outcomes have a history, as far as 64 bits count
  pub any_outcomes : (os : List Bool) → length os ≤ 2 ^ 64 - 1 → (r : Record) × (r.live ≡ false) × History task os r
  unfolding opened
  any_outcomes [] l = (fresh task, refl, start)
  any_outcomes (o ∷ os) l =
      let x = any_outcomes os (omega arith) in
      let e = rw x.1 at (counts x.2).released in
      (closed (opened x.0 0) o, closed_idle (opened x.0 0) o, close o refl (release {r = x.0} 0 x.1 (omega arith) x.2))
