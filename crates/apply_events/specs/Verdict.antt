-- Rules, "Order of refusals", for applying: each row of the table, in the order 15, 7, 8, 9, 10, then 11 or 12. Each leaves the earlier ones out.
use Rattle.std.specs.Prelude.{ℕ, ◌≤◌, ◌<◌, ◌≡◌, true, false, ◌⊎◌}
use Rattle.event_reading.specs.declared.Event.{Event}
use Rattle.event_reading.specs.Event.{a_tick, a_release, fault_of}
use Rattle.task_records.specs.declared.Record.{Record}
use Rattle.task_steps.specs.Opening.{expired}
use Rattle.state_rules.specs.declared.State.{State}
use Rattle.state_rules.specs.State.{record_at}
use Rattle.state_rules.specs.Sound.{limit, StateSound}
use Rattle.task_steps.specs.Own.{too_soon, is_open}

-- the record of the event's task after step 1
abbrev pub after_one : State → Event → Record
after_one s e = expired (record_at s e.task) e.time

-- sound, the event's own rules hold, and its time is within the limit and not before the clock
pub record Heard (s : State) (e : Event) : Type 0 where
  pub sound : StateSound s
  pub ruled : fault_of e ≡ 0
  pub limited : e.time ≤ limit
  pub onward : s.clock ≤ e.time

pub data Verdict (s : State) (e : Event) : ℕ → Type 0 where
  unsound : (StateSound s → ⊥) → Verdict s e 15
  -- 7 or 8, as the event's value breaks its rules
  unruled : StateSound s → (fault_of e ≡ 0 → ⊥) → Verdict s e (fault_of e)
  untimely : StateSound s → fault_of e ≡ 0 → (limit < e.time) ⊎ (e.time < s.clock) → Verdict s e 9
  no_task_lem : Heard s e → (e.kind ≡ a_tick → ⊥) → s.count ≤ e.task → Verdict s e 10
  too_soon_lem : Heard s e → e.kind ≡ a_release → e.task < s.count → too_soon (after_one s e) e.time ≡ true → Verdict s e 11
  no_job : Heard s e → (e.kind ≡ a_tick → ⊥) → (e.kind ≡ a_release → ⊥) → e.task < s.count → is_open (after_one s e) e.job ≡ false → Verdict s e 12
  -- accepted
  ticks : Heard s e → e.kind ≡ a_tick → Verdict s e 0
  releases : Heard s e → e.kind ≡ a_release → e.task < s.count → too_soon (after_one s e) e.time ≡ false → Verdict s e 0
  completes : Heard s e → (e.kind ≡ a_tick → ⊥) → (e.kind ≡ a_release → ⊥) → e.task < s.count → is_open (after_one s e) e.job ≡ true → Verdict s e 0
