-- Rules, "Thresholds and classes": w, h and the top of a task's level.
use Rattle.std.specs.Prelude.{ℕ, ◌-◌, ◌/◌, max, cond, eqb}
use Rattle.laws.specs.Numbers.{ceiling}

-- the larger of 1 and floor (m / (K - m)); 0 for a hard task
abbrev pub w_of : ℕ → ℕ → ℕ
w_of m k = cond (eqb m 0) 0 (max 1 (m / (k - m)))

-- ceil ((K - m) / m); 1 for a hard task
abbrev pub h_of : ℕ → ℕ → ℕ
h_of m k = cond (eqb m 0) 1 (ceiling (k - m) m)

-- K - m; 0 for a hard task
abbrev pub top_of : ℕ → ℕ → ℕ
top_of m k = cond (eqb m 0) 0 (k - m)
