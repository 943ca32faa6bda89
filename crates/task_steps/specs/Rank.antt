-- Rules, "Choice": least by class, then by D, then by table position.
use Rattle.std.specs.Prelude.{ℕ, ◌+◌, ◌*◌, ◌<◌, ◌≡◌, ◌⊎◌}
use Rattle.table_rules.specs.Order.{Higher}
use Rattle.task_records.specs.declared.Record.{Record}

-- the job of r, at position i, is above that of q, at position j
abbrev pub JobAbove : Record → ℕ → Record → ℕ → Type 0
JobAbove r i q j = (r.class < q.class) ⊎ ((r.class ≡ q.class) × Higher r.task i q.task j)

-- class and D as one number: the smaller is above, and equal ones go by position
abbrev pub key_of : Record → ℕ
key_of r = r.class * 4294967296 + r.task.d
