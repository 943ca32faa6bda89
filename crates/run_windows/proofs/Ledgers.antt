-- A ledger says job by job what `RequiredMet` says of each split of the outcomes, and grows with the record by one rule a closing.
use Prim.Native.Nat.{ℕ, zero, suc, ◌<◌}
use mathlib.Core.Path.{◌≡◌, refl, ap}
use mathlib.Core.Bool.{Bool, true, false}
use mathlib.Core.List.{List, [], ◌∷◌, ◌++◌}
use native.Mathlib.Omega.{arith}
use lib.ListN.{drop}
use Rattle.laws.proofs.Tests.{impossible}
use Rattle.task_levels.specs.Level.{class_of}
use Rattle.table_rules.specs.declared.Task.{Task}
use Rattle.task_records.specs.declared.Record.{Record}
use Rattle.task_records.specs.Closing.{closed}
use Rattle.task_steps.specs.Opening.{fresh, opened}
use Rattle.run_windows.proofs.Levels.{Rung, rung_of, low_rung, met_rung, missed_rung, rung_after}
use Rattle.run_windows.proofs.Rungs.{rung_met, rung_missed, rung_opened}

-- no job of the required class was missed: each missed job had a class above 0, by the level that the older jobs left
abbrev pub RequiredMet : Task → List Bool → Type 0
RequiredMet task os =
    (newer older : List Bool) → os ≡ newer ++ (false ∷ older) → 0 < class_of (rung_after task older).level

-- the same job by job, with the level and run that the outcomes leave
pub data Ledger (task : Task) : List Bool → Rung → Type 0 where
  blank : Ledger task [] (low_rung task)
  then_met : {os : List Bool} {q : Rung} → Ledger task os q → Ledger task (true ∷ os) (met_rung task q)
  then_missed : {os : List Bool} {q : Rung} → 0 < class_of q.level → Ledger task os q → Ledger task (false ∷ os) (missed_rung task q)

module _ {task : Task} where
  pub ledger_of : (os : List Bool) → RequiredMet task os → Ledger task os (rung_after task os)
  ledger_of [] f = blank
  ledger_of (true ∷ os) f = then_met (ledger_of os (λ n o e. f (true ∷ n) o (ap (λ (l : List Bool). true ∷ l) e)))
  ledger_of (false ∷ os) f =
      let l = ledger_of os (λ n o e. f (false ∷ n) o (ap (λ (l : List Bool). false ∷ l) e)) in
      then_missed {q = rung_after task os} (omega (arith, f [] os refl)) l

  pub ledger_rung : {os : List Bool} {q : Rung} → Ledger task os q → q ≡ rung_after task os
  ledger_rung blank = refl
  ledger_rung (then_met l) = rw (ledger_rung l)
  ledger_rung (then_missed c l) = rw (ledger_rung l)

  pub required_of : {os : List Bool} {q : Rung} → Ledger task os q → RequiredMet task os
  required_of blank [] older e = impossible cc
  required_of blank (o ∷ newer) older e = impossible cc
  required_of (then_met l) [] older e = impossible cc
  required_of (then_met l) (o ∷ newer) older e = required_of l newer older (cc)
  required_of (then_missed {os = os} c l) [] older e =
      let s : os ≡ older = cc in rw (← s, ← ledger_rung l) c
  required_of (then_missed c l) (o ∷ newer) older e = required_of l newer older (cc)

  -- the outcomes before the newest p
  pub earlier : (p : ℕ) {os : List Bool} {q : Rung} → Ledger task os q → (s : Rung) × Ledger task (drop p os) s
  earlier zero {q = q} l = (q, l)
  earlier (suc p) blank = (low_rung task, blank)
  earlier (suc p) (then_met l) = earlier p l
  earlier (suc p) (then_missed c l) = earlier p l

  -- the ledger of a record, step by step
  pub ledger_fresh : Ledger task [] (rung_of (fresh task))
  unfolding low_rung
  ledger_fresh = blank

  module _ {os : List Bool} (r : Record) (l : Ledger task os (rung_of r)) where
    pub ledger_opened : (t : ℕ) → Ledger task os (rung_of (opened r t))
    ledger_opened t = rw (rung_opened r t) l

    pub ledger_met : r.task ≡ task → Ledger task (true ∷ os) (rung_of (closed r true))
    ledger_met e = rw (rung_met r, e) (then_met l)

    pub ledger_missed : r.task ≡ task → 0 < class_of r.level → Ledger task (false ∷ os) (rung_of (closed r false))
    ledger_missed e c = rw (rung_missed r, e) (then_missed c l)
