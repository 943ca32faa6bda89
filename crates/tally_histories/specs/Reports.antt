-- Rules, "Tally", as a sentence on a report: which one a log gets, by the jobs of its history. `report_exactly` shows that it is `reported`.
use Rattle.std.specs.Prelude.{ℕ, List}
use Rattle.laws.specs.Stores.{filled}
use Rattle.event_logs.specs.Ending.{ending_of}
use Rattle.state_rules.specs.declared.State.{State}
use Rattle.state_rules.specs.Sound.{StateSound}
use Rattle.run_histories.specs.History.{run_state}
use Rattle.tally_rules.specs.declared.Tallies.{Tallies}
use Rattle.tally_rules.specs.Answer.{Accepted}
use Rattle.tally_histories.specs.Answer.{Reported, withheld}
use Rattle.tally_histories.specs.Sound.{TalliesSound, Carried, Beside}
use Rattle.tally_histories.specs.Responses.{tally_after, run_of, AllWithin}

-- each task's tally with the responses of the met jobs of the log's history; places past the last task stay
abbrev pub historied : State → Tallies → List ℕ → Tallies
historied s ts log = record { row = filled (tally_after s ts (run_of log)) s.count ts.row }

pub data Reports (s : State) (ts : Tallies) (log : List ℕ) : Reported → Type 0 where
  unsound : (StateSound s → ⊥) → Reports s ts log (withheld s ts 15)
  unsound_tally : StateSound s → (TalliesSound ts s.count → ⊥) → Reports s ts log (withheld s ts 15)
  other_d : StateSound s → TalliesSound ts s.count → (Carried s ts s.count → ⊥) → Reports s ts log (withheld s ts 16)
  -- a sum or a cell would pass its limit
  passes : Beside s ts → (AllWithin s ts (run_of log) → ⊥) → Reports s ts log (withheld s ts 16)
  reports : Beside s ts → AllWithin s ts (run_of log)
      → Reports s ts log (record { answer = Accepted; state = run_state s (run_of log); tallies = historied s ts log; ending = ending_of log })
