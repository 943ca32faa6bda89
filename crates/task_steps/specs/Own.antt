-- Rules, "Events and the clock": an event's own task. What refuses the event, and what it makes of the record; both of the record as step 1 leaves it.
use Rattle.std.specs.Prelude.{ℕ, ◌+◌, Bool, true, false, cond, eqb, ltb}
use Rattle.event_reading.specs.declared.Event.{Event}
use Rattle.event_reading.specs.Event.{a_tick, a_release}
use Rattle.task_records.specs.declared.Record.{Record}
use Rattle.task_records.specs.Closing.{closed}
use Rattle.task_steps.specs.Opening.{opened}

-- a release sooner than T after the task's last release, if it had one
abbrev pub too_soon : Record → ℕ → Bool
too_soon r t = cond (eqb r.released 0) false (ltb t (r.last + r.task.t))

-- the open job of that number
abbrev pub is_open : Record → ℕ → Bool
is_open r job = cond r.live (eqb r.released job) false

-- step 2: if the task still has an open job, it is closed as missed; the new job opens
abbrev pub reopened : Record → ℕ → Record
reopened r t = opened (cond r.live (closed r false) r) t

-- what refuses a release, or 0
abbrev pub release_fault : Record → Event → ℕ
release_fault r e = cond (too_soon r e.time) 11 0

-- what refuses a completion, or 0
abbrev pub completion_fault : Record → Event → ℕ
completion_fault r e = cond (is_open r e.job) 0 12

-- by kind; nothing of its task refuses a tick
unfoldable pub own_fault : Record → Event → ℕ
own_fault r e = cond (eqb e.kind a_tick) 0 (cond (eqb e.kind a_release) (release_fault r e) (completion_fault r e))

-- steps 2 and 3: a release opens a job, a completion closes the open one as met, and a tick does nothing more
unfoldable pub own_after : Record → Event → Record
own_after r e = cond (eqb e.kind a_tick) r (cond (eqb e.kind a_release) (reopened r e.time) (closed r true))
