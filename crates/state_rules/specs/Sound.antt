-- Rules, "Sound states": 1 to 16 tasks, clock within limit, and each task's record sound at the clock.
use Rattle.std.specs.Prelude.{ℕ, zero, suc, ◌≤◌, ◌<◌, Bool, true, false, cond, leb, get_or, List}
use Rattle.table_rules.specs.Rules.{Counted, count_holds}
use Rattle.task_records.specs.declared.Record.{Record}
use Rattle.task_steps.specs.Opening.{no_record}
use Rattle.task_soundness.specs.Sound.{Sound, sound_holds}
use Rattle.state_rules.specs.declared.State.{State}
use Rattle.state_rules.specs.State.{record_at}

-- time is 0 to 1,000,000,000,000
abbrev pub limit : ℕ
limit = 1000000000000

pub record StateSound (s : State) : Type 0 where
  pub counted : Counted s.count
  pub clock : s.clock ≤ limit
  pub each : (i : ℕ) → i < s.count → Sound (record_at s i) s.clock

-- the same as a test
unfoldable pub each_holds : List Record → ℕ → ℕ → Bool
each_holds l clock zero = true
each_holds l clock (suc n) = cond (each_holds l clock n) (sound_holds (get_or l n no_record) clock) false

unfoldable pub state_holds : State → Bool
state_holds s =
    cond (count_holds s.count) (cond (leb s.clock limit) (each_holds s.records s.clock s.count) false) false
