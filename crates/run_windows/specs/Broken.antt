-- Rules, "Window": `broken` over the outcomes of a task's closed jobs. `never_broken` and `first_broken` show that number and sentences agree.
use Rattle.std.specs.Prelude.{ℕ, ◌-◌, ◌≤◌, ◌<◌, Bool, cond, List, [], ◌∷◌, eqb, ltb, length, drop}
use Rattle.run_windows.specs.Outcomes.{last_misses}

-- the number of the first job whose closing left more than m misses in the window, or 0. Jobs are numbered from 1 by closing
unfoldable pub first_over : ℕ → ℕ → List Bool → ℕ
first_over m k [] = 0
first_over m k (o ∷ os) =
    cond (eqb (first_over m k os) 0) (cond (ltb m (last_misses k (o ∷ os))) (length (o ∷ os)) 0) (first_over m k os)

-- the outcomes of jobs 1 to n
abbrev pub first_jobs : ℕ → List Bool → List Bool
first_jobs n os = drop (length os - n) os

-- no job's closing left more than m misses in the window
abbrev pub Unbroken : ℕ → ℕ → List Bool → Type 0
Unbroken m k os = (n : ℕ) → n ≤ length os → last_misses k (first_jobs n os) ≤ m

-- the closing of job n did, and no earlier one
pub record BrokenAt (m k : ℕ) (os : List Bool) (n : ℕ) : Type 0 where
  pub some : 1 ≤ n
  pub among : n ≤ length os
  pub over : m < last_misses k (first_jobs n os)
  pub first : (j : ℕ) → j < n → last_misses k (first_jobs j os) ≤ m
