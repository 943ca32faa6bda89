-- The kinds of events, the rules of an event value, and the numbers 7 and 8 of one that breaks them.
use Rattle.std.specs.Prelude.{ℕ, ◌≤◌, ◌<◌, ◌≡◌, Bool, true, false, cond, ltb, eqb}
use Rattle.event_reading.specs.declared.Event.{Event}

abbrev pub a_tick : ℕ
a_tick = 0

abbrev pub a_release : ℕ
a_release = 1

abbrev pub a_completion : ℕ
a_completion = 2

-- the largest of the kinds
abbrev pub last_kind : ℕ
last_kind = a_completion

-- in a tick, task and job are 0; in a release, job is 0
pub record Zeroed (e : Event) : Type 0 where
  pub tick_task : e.kind ≡ a_tick → e.task ≡ 0
  pub tick_job : e.kind ≡ a_tick → e.job ≡ 0
  pub release_job : e.kind ≡ a_release → e.job ≡ 0

-- the kind is a tick, a release or a completion, and the fields that have to be 0 are
pub record Ruled (e : Event) : Type 0 where
  pub known : e.kind ≤ last_kind
  pub zeroed : Zeroed e

-- the numbers of the refusal table, row by row: each row leaves the earlier ones out
pub data Judged (e : Event) : ℕ → Type 0 where
  unknown : last_kind < e.kind → Judged e 7
  stray : e.kind ≤ last_kind → (Zeroed e → ⊥) → Judged e 8
  sound : Ruled e → Judged e 0

-- the same as computed tests: `judged_is` and `judged_only` show that they agree
unfoldable pub zeroes : Event → Bool
zeroes e = cond (eqb e.kind a_tick) (cond (eqb e.task 0) (eqb e.job 0) false) (cond (eqb e.kind a_release) (eqb e.job 0) true)

-- 0 where the event obeys the rules
unfoldable pub fault_of : Event → ℕ
fault_of e = cond (ltb last_kind e.kind) 7 (cond (zeroes e) 0 8)
