-- Rules, "Response bound" and "Choice": a task stands above another by smaller D, or by equal D and smaller position.
use Rattle.std.specs.Prelude.{ℕ, ◌<◌, ◌≡◌, ◌⊎◌}
use Rattle.table_rules.specs.declared.Task.{Task}

-- task a, at position i, above task b, at position j
abbrev pub Higher : Task → ℕ → Task → ℕ → Type 0
Higher a i b j = (a.d < b.d) ⊎ ((a.d ≡ b.d) × (i < j))
