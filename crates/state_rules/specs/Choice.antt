-- Rules, "Choice": that of a state, over the tasks that it counts; no more than it has places.
use Rattle.std.specs.Prelude.{min}
use Rattle.table_rules.specs.Limits.{place_count}
use Rattle.state_choice.specs.Best.{Best}
use Rattle.state_choice.specs.Choice.{best_to}
use Rattle.state_rules.specs.declared.State.{State}

abbrev pub chosen : State → Best
chosen s = best_to s.records (min s.count place_count)
