-- A table that was read starts in its fresh state, which is sound and idle: reading has judged it.
use Prim.Native.Nat.{ℕ}
use mathlib.Core.Path.{◌≡◌}
use mathlib.Core.Bool.{false}
use mathlib.Core.List.{List}
use Rattle.table_rules.specs.Answers.{Accepted}
use Rattle.table_rules.specs.declared.Table.{Table}
use Rattle.table_rules.specs.Judging.{judged}
use Rattle.table_reading.specs.Table.{read_table}
use Rattle.table_reading.proofs.Given.{read_good}
use Rattle.state_rules.specs.State.{fresh_state, started}
use Rattle.state_rules.specs.Sound.{StateSound}
use Rattle.state_rules.specs.Choice.{chosen}
use Rattle.state_rules.proofs.Starting.{start_sound, start_idle}

module _ (s : List ℕ) (good : (read_table s).answer ≡ Accepted) where
  abbrev table : Table
  table = (read_table s).table

  judged_good : judged table ≡ Accepted
  judged_good = read_good s good

  pub start_fresh : (started table).state ≡ fresh_state table
  unfolding started
  start_fresh = rw judged_good

  pub begins_sound : StateSound (fresh_state table)
  begins_sound = start_sound table judged_good

  pub begins_idle : (chosen (fresh_state table)).found ≡ false
  begins_idle = start_idle table judged_good
