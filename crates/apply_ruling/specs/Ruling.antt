-- Rules, "Order of refusals": 7, 8, 9, 10, then what refuses an event of its own task; and the task's record after it. On values.
use Rattle.std.specs.Prelude.{ℕ, cond, eqb, leb, ltb}
use Rattle.event_reading.specs.declared.Event.{Event}
use Rattle.event_reading.specs.Event.{fault_of}
use Rattle.task_records.specs.declared.Record.{Record}
use Rattle.task_steps.specs.Opening.{expired}
use Rattle.task_steps.specs.Own.{own_fault, own_after}
use Rattle.state_rules.specs.Sound.{limit}
use Rattle.apply_ruling.specs.Answer.{Ruling}

-- where the event's task stands, or the first place where there is no such task
abbrev pub seat_of : ℕ → ℕ → ℕ
seat_of task count = cond (ltb task count) task 0

-- 7 or 8, then 9, then 10: told without a look at any record
unfoldable pub bar_of : ℕ → ℕ → Event → ℕ
bar_of clock count e =
    cond (eqb (fault_of e) 0)
    (cond (ltb limit e.time) 9 (cond (ltb e.time clock) 9 (cond (leb count e.task) 10 0)))
    (fault_of e)

-- accepted: the record after it
abbrev pub taken : Record → Ruling
taken r = record { refusal = 0; after = r }

-- refused: the record as it stood, step 1 undone too
abbrev pub kept : ℕ → Record → Ruling
kept n r = record { refusal = n; after = r }

-- the checks of its own task are made on the record x that step 1 leaves of r
abbrev pub own_ruled : Record → Record → Event → Ruling
own_ruled r x e = cond (eqb (own_fault x e) 0) (taken (own_after x e)) (kept (own_fault x e) r)

-- first what bars the event, then its own task
unfoldable pub ruled : ℕ → ℕ → Record → Event → Ruling
ruled clock count r e = cond (eqb (bar_of clock count e) 0) (own_ruled r (expired r e.time) e) (kept (bar_of clock count e) r)
