-- Rules, "Choice": over a row of records by position, the least open job so far; a job that is not open never wins.
use Rattle.std.specs.Prelude.{ℕ, zero, suc, Bool, true, false, cond, List, ltb, get_or}
use Rattle.task_records.specs.declared.Record.{Record}
use Rattle.task_steps.specs.Opening.{no_record}
use Rattle.task_steps.specs.Rank.{key_of}
use Rattle.state_choice.specs.Best.{Best}

abbrev pub none : Best
none = record { found = false; key = 0; at = 0 }

-- an open job wins over none, and over a greater key
abbrev pub wins : Best → Bool → ℕ → Bool
wins best live key = cond live (cond best.found (ltb key best.key) true) false

abbrev pub better : Best → Record → ℕ → Best
better best r at = cond (wins best r.live (key_of r)) (record { found = true; key = key_of r; at = at }) best

unfoldable pub best_to : List Record → ℕ → Best
best_to l zero = none
best_to l (suc n) = better (best_to l n) (get_or l n no_record) n
