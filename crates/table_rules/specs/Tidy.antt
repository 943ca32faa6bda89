-- Rules, "Sound states": places past the last task are zero.
use Rattle.std.specs.Prelude.{ℕ, ◌≤◌, ◌≡◌, length, get_or}
use Rattle.table_rules.specs.declared.Table.{Table}
use Rattle.table_rules.specs.Limits.{place_count}
use Rattle.table_rules.specs.Rules.{no_task}

-- a table with all its places, as every one that was read is
pub record Tidy (t : Table) : Type 0 where
  pub places : length t.tasks ≡ place_count
  pub zeros : (i : ℕ) → t.count ≤ i → get_or t.tasks i no_task ≡ no_task
