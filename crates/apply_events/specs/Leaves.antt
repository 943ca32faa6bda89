-- Rules, "Events and the clock", as a sentence: the state that an accepted event leaves, place by place. `leaves_exactly` shows that it is `applied`'s.
use Rattle.std.specs.Prelude.{ℕ, ◌≤◌, ◌<◌, ◌≡◌, true, ◌⊎◌, length}
use Rattle.event_reading.specs.declared.Event.{Event}
use Rattle.event_reading.specs.Event.{a_tick, a_release, a_completion}
use Rattle.task_records.specs.Closing.{closed}
use Rattle.task_steps.specs.Opening.{expired}
use Rattle.task_steps.specs.Own.{reopened}
use Rattle.state_rules.specs.declared.State.{State}
use Rattle.state_rules.specs.State.{record_at}
use Rattle.apply_events.specs.Verdict.{after_one}

pub record Leaves (s : State) (e : Event) (q : State) : Type 0 where
  -- the clock becomes t
  pub clock : q.clock ≡ e.time
  pub count : q.count ≡ s.count
  pub places : length q.records ≡ length s.records
  -- 1. every open job with deadline below t is closed as missed: all that a tick does, and all that happens to another task
  pub others : (i : ℕ) → i < s.count → (e.kind ≡ a_tick) ⊎ (i ≡ e.task → ⊥) → record_at q i ≡ expired (record_at s i) e.time
  -- 2. release: a job that is still open is closed as missed, and the new job opens
  pub release : e.kind ≡ a_release → record_at q e.task ≡ reopened (after_one s e) e.time
  -- 3. completion: the open job is closed as met
  pub completion : e.kind ≡ a_completion → record_at q e.task ≡ closed (after_one s e) true
  -- nothing past the last task
  pub past : (i : ℕ) → s.count ≤ i → record_at q i ≡ record_at s i
