-- Windows worked out by computation, on records and on outcomes alike.
use Prim.Native.Nat.{ℕ}
use mathlib.Core.Path.{◌≡◌, refl}
use mathlib.Core.Bool.{Bool, true, false}
use mathlib.Core.List.{List, [], ◌∷◌, ◌++◌, map}
use lib.Dec.{lit<}
use lib.Count.{ones, ones_in}
use lib.IntN.{ℤ, pos, negsuc}
use Rattle.table_rules.specs.declared.Task.{Task}
use Rattle.task_records.specs.declared.Record.{Record}
use Rattle.task_records.specs.Window.{window_of}
use Rattle.task_records.specs.Closing.{closed}
use Rattle.task_steps.specs.Opening.{fresh, opened}
use Rattle.run_windows.specs.Outcomes.{last_misses}
use Rattle.run_windows.specs.Broken.{first_over}
use Rattle.run_windows.proofs.Levels.{Rung, low_rung, met_rung, missed_rung, rung_after}
use Rattle.run_windows.proofs.Ledgers.{Ledger, blank, then_met, then_missed}

-- a task (m, K) and the outcomes of its jobs, oldest first
abbrev pub Case : Type 0
Case = ℕ × ℕ × List Bool

-- level, run, window number and `broken`
abbrev pub Verdict : Type 0
Verdict = ℤ × ℕ × ℕ × ℕ

abbrev pub task_of : Case → Task
task_of x = record { c = 1; d = 1; t = 1; m = x.0; k = x.1 }

abbrev pub closed_all : Record → List Bool → Record
closed_all r [] = r
closed_all r (o ∷ os) = closed_all (closed (opened r 0) o) os

abbrev pub newest_first : List Bool → List Bool
newest_first [] = []
newest_first (o ∷ os) = newest_first os ++ (o ∷ [])

abbrev pub on_record : Case → Verdict
on_record x =
    let r = closed_all (fresh (task_of x)) x.2 in
    (r.level, r.run, window_of r, r.broken)

abbrev pub on_outcomes : Case → Verdict
on_outcomes x =
    let os = newest_first x.2 in
    let q = rung_after (task_of x) os in
    (q.level, q.run, last_misses x.1 os, first_over x.0 x.1 os)

abbrev pub cases : List Case
cases =
    (1, 3, false ∷ true ∷ false ∷ [])
    ∷ (1, 3, true ∷ true ∷ false ∷ true ∷ true ∷ false ∷ [])
    ∷ (1, 3, true ∷ true ∷ true ∷ true ∷ true ∷ [])
    ∷ (1, 3, false ∷ true ∷ false ∷ true ∷ true ∷ true ∷ false ∷ false ∷ [])
    ∷ (2, 3, true ∷ false ∷ false ∷ true ∷ [])
    ∷ (2, 3, true ∷ false ∷ false ∷ true ∷ false ∷ [])
    ∷ (2, 3, false ∷ false ∷ false ∷ [])
    ∷ (2, 5, true ∷ true ∷ false ∷ true ∷ true ∷ false ∷ true ∷ [])
    ∷ (2, 5, false ∷ true ∷ false ∷ true ∷ false ∷ [])
    ∷ (3, 5, true ∷ false ∷ true ∷ false ∷ true ∷ false ∷ [])
    ∷ (3, 5, false ∷ true ∷ false ∷ false ∷ false ∷ [])
    ∷ (0, 1, true ∷ true ∷ true ∷ [])
    ∷ (0, 1, true ∷ false ∷ true ∷ [])
    ∷ []

abbrev pub verdicts : List Verdict
verdicts =
    (negsuc 0, 0, 2, 3)
    ∷ (negsuc 0, 0, 1, 0)
    ∷ (pos 2, 0, 0, 0)
    ∷ (negsuc 0, 0, 2, 3)
    ∷ (pos 1, 0, 2, 0)
    ∷ (pos 1, 1, 2, 0)
    ∷ (pos 0, 0, 3, 3)
    ∷ (pos 0, 0, 2, 0)
    ∷ (negsuc 0, 0, 3, 5)
    ∷ (pos 0, 0, 3, 0)
    ∷ (pos 0, 0, 4, 5)
    ∷ (pos 0, 0, 0, 0)
    ∷ (pos 0, 0, 0, 2)
    ∷ []

pub worked : (map on_record cases ≡ verdicts) × (map on_outcomes cases ≡ verdicts)
unfolding closed opened first_over low_rung met_rung missed_rung ones ones_in
worked = (refl, refl)

-- the bound is reached: of (2, 3), met, miss, miss, and neither miss in class 0
pub reached : (q : Rung) × Ledger (task_of (2, 3, [])) (false ∷ false ∷ true ∷ []) q
unfolding low_rung met_rung missed_rung
reached = (rung_after (task_of (2, 3, [])) (false ∷ false ∷ true ∷ []), then_missed (lit< tt) (then_missed (lit< tt) (then_met blank)))
