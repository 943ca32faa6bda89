-- Rules, "Order of refusals": 15, then the ruling on the event; and the answer and the state after an accepted one.
use Rattle.std.specs.Prelude.{ℕ, cond, List, eqb, set}
use Rattle.event_reading.specs.declared.Event.{Event}
use Rattle.task_records.specs.declared.Record.{Record}
use Rattle.state_choice.specs.Best.{Best}
use Rattle.state_rules.specs.declared.State.{State}
use Rattle.state_rules.specs.State.{record_at}
use Rattle.state_rules.specs.Sound.{state_holds}
use Rattle.state_rules.specs.Choice.{chosen}
use Rattle.apply_ruling.specs.Answer.{Ruling}
use Rattle.apply_ruling.specs.Ruling.{ruled}
use Rattle.apply_events.specs.Answer.{Answer}
use Rattle.apply_events.specs.Answer.{Run, Idle, Refused}
use Rattle.apply_events.specs.Answer.{Applied}
use Rattle.apply_events.specs.Steps.{expired_all}

-- run with the chosen position and that job's class, or idle
abbrev pub told_of : Best → ℕ → Answer
told_of b class = cond b.found (Run b.at class) Idle

abbrev pub answer_of : State → Answer
answer_of s = told_of (chosen s) (record_at s (chosen s).at).class

-- the clock becomes t
abbrev pub moved : State → ℕ → List Record → State
moved s t l = record { count = s.count; clock = t; records = l }

abbrev pub accepted : State → ℕ → List Record → Applied
accepted s t l = record { answer = answer_of (moved s t l); state = moved s t l }

-- the state as given
abbrev pub refused : State → ℕ → Applied
refused s n = record { answer = Refused n; state = s }

-- refused: its number; accepted: step 1 on every task, and then the event's own record as it is ruled
abbrev pub carried_out : State → Event → Ruling → Applied
carried_out s e q =
    cond (eqb q.refusal 0) (accepted s e.time (set (expired_all s e.time) e.task q.after)) (refused s q.refusal)

-- the ruling on the event is made on its own task's record
abbrev pub acted : State → Event → Applied
acted s e = carried_out s e (ruled s.clock s.count (record_at s e.task) e)

-- 15 before all
unfoldable pub applied : State → Event → Applied
applied s e = cond (state_holds s) (acted s e) (refused s 15)
