-- Rules, "Tally": what a report over a log answers; 15, then 16, and then the state and the tallies after all events that read.
use Rattle.std.specs.Prelude.{ℕ, cond, List, eqb}
use Rattle.event_logs.specs.Log.{events_of}
use Rattle.event_logs.specs.Ending.{ending_of}
use Rattle.state_rules.specs.declared.State.{State}
use Rattle.state_rules.specs.Sound.{state_holds}
use Rattle.apply_events.specs.Log.{state_after}
use Rattle.tally_rules.specs.declared.Tallies.{Tallies}
use Rattle.tally_rules.specs.Answer.{Accepted}
use Rattle.tally_histories.specs.Answer.{Reported, withheld}
use Rattle.tally_histories.specs.Events.{tallies_after, all_admit}
use Rattle.tally_histories.specs.Sound.{tallies_hold, carried_by}

-- the state and the tallies after all events that read, and what ended the reading
abbrev pub given : State → Tallies → List ℕ → Reported
given s ts log =
    record {
      answer = Accepted;
      state = state_after s (events_of log);
      tallies = tallies_after s ts (events_of log);
      ending = ending_of log;
    }

-- the number that refuses tallies beside a state before anything is read, or 0
unfoldable pub fault_beside : State → Tallies → ℕ
fault_beside s ts =
    cond (state_holds s) (cond (tallies_hold ts s.count) (cond (carried_by s ts s.count) 0 16) 15) 15

-- 16 where one addition does not fit: a report is exact or refused whole
abbrev pub tally_log : State → Tallies → List ℕ → Reported
tally_log s ts log = cond (all_admit s ts (events_of log)) (given s ts log) (withheld s ts 16)

-- 15 before all, also where a tally is not sound; then 16
unfoldable pub reported : State → Tallies → List ℕ → Reported
reported s ts log = cond (eqb (fault_beside s ts) 0) (tally_log s ts log) (withheld s ts (fault_beside s ts))
