-- Rules, "Window": the misses in a task's window, and `broken`.
use Rattle.std.specs.Prelude.{ℕ, cond, eqb, ltb}
use Rattle.std.specs.Int.Count.{ones}
use Rattle.task_records.specs.declared.Record.{Record}

-- the window number: the misses in the window
abbrev pub window_of : Record → ℕ
window_of r = ones r.marks

-- the number of the first job whose closing left more than m misses in the window; it does not go back to 0.
-- The job that closes is the one released last, so its number is `released`
abbrev pub broken_by : Record → ℕ → ℕ
broken_by r marks = cond (eqb r.broken 0) (cond (ltb r.task.m (ones marks)) r.released 0) r.broken
