-- Rules, "Sound states": the clauses on one task's record, at a clock.
use Rattle.std.specs.Prelude.{ℕ, ◌+◌, ◌-◌, ◌^◌, min, ◌≤◌, ◌<◌, ◌≡◌, Bool, true, false, cond, not, [], ◌∷◌, eqb, leb}
use Rattle.laws.specs.Tests.{all_of, whenever}
use Rattle.task_levels.specs.Level.{class_of, level_holds}
use Rattle.table_rules.specs.Rules.{task_fault}
use Rattle.task_thresholds.specs.Thresholds.{w_of, h_of, top_of}
use Rattle.task_records.specs.declared.Record.{Record}
use Rattle.task_soundness.specs.Counts.{open_of, counts_hold}

pub record Sound (r : Record) (clock : ℕ) : Type 0 where
  -- obeys the table rules
  pub ruled : task_fault r.task ≡ 0
  -- level and run within range: run at most w - 1, 0 in class 0 and for a hard task
  pub level : level_holds r.level (h_of r.task.m r.task.k) (top_of r.task.m r.task.k) ≡ true
  pub run : r.run ≤ w_of r.task.m r.task.k - 1
  pub required : class_of r.level ≡ 0 → r.run ≡ 0
  -- an open job's class is the larger of 0 and its task's level
  pub opens : r.live ≡ true → r.class ≡ class_of r.level
  -- last release not after the clock
  pub past : r.last ≤ clock
  -- no open job's deadline before the clock
  pub timely : r.live ≡ true → clock ≤ r.last + r.task.d
  -- a task without releases has nothing open and last release 0
  pub unreleased : r.released ≡ 0 → (r.live ≡ false) × (r.last ≡ 0)
  -- releases at most last release + 1
  pub spaced : r.released ≤ r.last + 1
  -- releases = met + missed + open
  pub balance : r.released ≡ r.met + r.missed + open_of r
  -- broken at most met + missed
  pub broken : r.broken ≤ r.met + r.missed
  -- no mark outside the lowest bits, as many as the lesser of K and met + missed
  pub marks : r.marks < 2 ^ min r.task.k (r.met + r.missed)

-- the same as tests, in groups
abbrev pub run_holds : ℕ → ℕ → ℕ → Bool
run_holds run w class = all_of (leb run (w - 1) ∷ whenever (eqb class 0) (eqb run 0) ∷ [])

abbrev pub ranges_hold : Record → Bool
ranges_hold r =
    cond (level_holds r.level (h_of r.task.m r.task.k) (top_of r.task.m r.task.k))
    (run_holds r.run (w_of r.task.m r.task.k) (class_of r.level))
    false

abbrev pub open_holds : Record → ℕ → Bool
open_holds r clock =
    whenever r.live (all_of (eqb r.class (class_of r.level) ∷ leb clock (r.last + r.task.d) ∷ []))

abbrev pub releases_hold : Record → ℕ → Bool
releases_hold r clock =
    all_of
    (leb r.last clock
    ∷ whenever (eqb r.released 0) (all_of (not r.live ∷ eqb r.last 0 ∷ []))
    ∷ leb r.released (r.last + 1)
    ∷ []
    )

unfoldable pub sound_holds : Record → ℕ → Bool
sound_holds r clock =
    all_of (eqb (task_fault r.task) 0 ∷ ranges_hold r ∷ open_holds r clock ∷ releases_hold r clock ∷ counts_hold r ∷ [])
