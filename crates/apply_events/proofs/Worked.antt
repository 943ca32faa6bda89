-- The eight thresholds of the rules and the eight events of the worked listing, answer by answer, as one table under one claim, by computation.
use Prim.Native.Nat.{ℕ}
use mathlib.Core.Path.{◌≡◌, refl}
use mathlib.Core.List.{List, [], ◌∷◌, map}
use lib.ListN.{replicate}
use Rattle.table_rules.specs.declared.Table.{Table}
use Rattle.table_rules.specs.Rules.{no_task}
use Rattle.task_thresholds.proofs.Worked.{Row, row_of, pairs, rows}
use Rattle.event_reading.specs.declared.Event.{Event}
use Rattle.event_reading.specs.Event.{a_tick, a_release, a_completion}
use Rattle.state_rules.specs.declared.State.{State}
use Rattle.state_rules.specs.State.{fresh_state}
use Rattle.apply_events.specs.Answer.{Answer}
use Rattle.apply_events.specs.Answer.{Run, Idle, Refused}
use Rattle.apply_events.specs.Apply.{applied}
use Rattle.apply_events.proofs.Computing.{event_computes}

-- tasks 0: (2,4,4,(1,2)) and 1: (3,7,8,(1,3))
abbrev pub listed : Table
listed =
    record {
      count = 2;
      tasks = record { c = 2; d = 4; t = 4; m = 1; k = 2 } ∷ record { c = 3; d = 7; t = 8; m = 1; k = 3 } ∷ replicate 14 no_task;
    }

abbrev release : ℕ → ℕ → Event
release task time = record { kind = a_release; task = task; job = 0; time = time }

abbrev complete : ℕ → ℕ → ℕ → Event
complete task job time = record { kind = a_completion; task = task; job = job; time = time }

abbrev tick : ℕ → Event
tick time = record { kind = a_tick; task = 0; job = 0; time = time }

abbrev pub events : List Event
events =
    release 0 0
    ∷ release 1 0
    ∷ complete 0 1 2
    ∷ release 0 3
    ∷ release 0 4
    ∷ complete 1 1 5
    ∷ complete 0 1 6
    ∷ tick 9
    ∷ []

-- the answers one after the other
abbrev pub answers : State → List Event → List Answer
answers s [] = []
answers s (e ∷ es) = (applied s e).answer ∷ answers (applied s e).state es

abbrev told : List Answer
told =
    Run 0 0
    ∷ Run 0 0
    ∷ Run 1 0
    ∷ Refused 11
    ∷ Run 1 0
    ∷ Run 0 1
    ∷ Refused 12
    ∷ Idle
    ∷ []

-- thresholds and answers in one table
abbrev Document : Type 0
Document = List Row × List Answer

pub document : ◌≡◌ {A = Document} (map row_of pairs, answers (fresh_state listed) events) (rows, told)
unfolding event_computes
document = refl
