-- One name for every definition by which an event is computed: a proof that unfolds it unfolds them all.
use lib.Count.{ones, ones_in}
use Rattle.laws.specs.Stores.{filled}
use Rattle.event_reading.specs.Event.{zeroes, fault_of}
use Rattle.table_rules.specs.Rules.{task_fault}
use Rattle.task_records.specs.Closing.{closed}
use Rattle.task_steps.specs.Opening.{expired, opened}
use Rattle.task_steps.specs.Own.{own_fault, own_after}
use Rattle.task_soundness.specs.Sound.{sound_holds}
use Rattle.state_choice.specs.Choice.{best_to}
use Rattle.state_rules.specs.Sound.{each_holds, state_holds}
use Rattle.apply_ruling.specs.Ruling.{bar_of, ruled}
use Rattle.apply_events.specs.Apply.{applied}

-- `applied` of a state and an event that are written out
unfoldable pub event_computes : Unit {0}
unfolding applied ruled bar_of own_fault own_after closed expired opened filled best_to sound_holds each_holds state_holds task_fault fault_of zeroes
    ones ones_in
event_computes = tt
