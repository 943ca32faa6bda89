-- Rules, "Sound states": the clauses on one record's counts, as tests. `Sound` has them as propositions too.
use Rattle.std.specs.Prelude.{ℕ, ◌+◌, ◌^◌, min, Bool, false, cond, [], ◌∷◌, eqb, leb, ltb}
use Rattle.laws.specs.Tests.{all_of}
use Rattle.laws.specs.Numbers.{one_if}
use Rattle.task_records.specs.declared.Record.{Record}

-- how many jobs are open: one or none
abbrev pub open_of : Record → ℕ
open_of r = one_if r.live

-- `broken` at most what has closed; no mark outside the lowest bits, as many as the lesser of K and what has closed
abbrev pub totals_hold : Record → ℕ → Bool
totals_hold r closed = all_of (leb r.broken closed ∷ ltb r.marks (2 ^ min r.task.k closed) ∷ [])

-- releases = met + missed + open, and the totals by met + missed
abbrev pub counts_hold : Record → Bool
counts_hold r =
    cond (eqb r.released (r.met + r.missed + open_of r)) (totals_hold r (r.met + r.missed)) false
