-- In every run the closed jobs of a task are what its record holds: the counts, the marks, `broken`, level and run are those of their outcomes, since
-- each event closes the job that the comparison says, and as met exactly where it is a completion.
use Prim.Native.Nat.{ℕ, suc, ◌+◌, ◌≤◌, ◌<◌}
use mathlib.Core.Path.{◌≡◌, refl, sym, ap, subst, ◌∙◌}
use mathlib.Core.Bool.{Bool, true, false, cond}
use mathlib.Core.List.{List, [], ◌∷◌}
use native.Mathlib.Omega.{arith}
use lib.Dec.{eqb}
use lib.ListN.{length}
use Rattle.laws.specs.Numbers.{one_if}
use Rattle.laws.proofs.Tests.{true_not_false, both_hold}
use Rattle.event_reading.specs.declared.Event.{Event}
use Rattle.task_levels.specs.Level.{class_of}
use Rattle.table_rules.specs.declared.Task.{Task}
use Rattle.table_rules.specs.declared.Table.{Table}
use Rattle.table_rules.specs.Answers.{Accepted}
use Rattle.table_rules.specs.Judging.{judged}
use Rattle.table_rules.proofs.Exactly.{judged_accepted}
use Rattle.table_rules.proofs.Ruling.{fault_none}
use Rattle.task_records.specs.declared.Record.{Record}
use Rattle.task_records.specs.Closing.{closed}
use Rattle.task_steps.specs.Opening.{expired, opened}
use Rattle.task_records.specs.Window.{window_of}
use Rattle.task_records.proofs.Steps.{closed_idle}
use Rattle.task_soundness.specs.Sound.{Sound}
use Rattle.task_soundness.proofs.Kept.{end}
use Rattle.state_rules.specs.declared.State.{State}
use Rattle.state_rules.specs.State.{record_at, fresh_state}
use Rattle.state_rules.specs.Sound.{StateSound}
use Rattle.state_rules.proofs.Starting.{fresh_at}
use Rattle.run_windows.specs.Outcomes.{mets, misses, last_misses}
use Rattle.run_windows.specs.Broken.{first_over}
use Rattle.run_windows.specs.History.{History, start, release, close}
use Rattle.run_windows.proofs.Levels.{Rung, rung_after}
use Rattle.run_windows.proofs.Counts.{counts}
use Rattle.run_windows.proofs.Marks.{window_is}
use Rattle.run_windows.proofs.Broken.{broken_is}
use Rattle.run_windows.proofs.Rungs.{class-is, rung_is}
use Rattle.bound_demand.specs.Above.{task_at}
use Rattle.task_steps.specs.Own.{reopened}
use Rattle.apply_events.specs.Apply.{applied}
use Rattle.run_histories.specs.History.{Job, run_state, run_record, closes, closed_job, jobs_of, outcomes_of}
use Rattle.run_histories.proofs.Steps.{closed_same, cleared, cleared_open, cleared_none, cleared_same}
use Rattle.run_histories.proofs.Steps.{Expired, over, stays, expiry, expired_same, expired_open}
use Rattle.run_histories.proofs.Closes.{jobs_with, closes_none, closes_stays, closes_idle, closes_next}
use Rattle.run_histories.proofs.Taken.{passed, Becomes, same, passes, reopens, finishes, becomes}
use Rattle.run_histories.proofs.Reached.{reached}

-- a new job has a number of its own
later_number : (r : Record) (clock : ℕ) (e : Event) → Sound r clock → clock ≤ end → (q : Record) → q.released ≡ r.released
    → (opened q e.time).released ≡ r.released → ⊥
unfolding opened
later_number r clock e g short q s z = omega (arith, s, g.spaced, g.past)

module _ (p : Task) (r : Record) (clock : ℕ) (e : Event) (i : ℕ) (jobs : List Job) (h : History p (outcomes_of jobs) r)
    (g : Sound r clock) (short : clock ≤ end) where
  -- what a release does not find open any more was missed
  missed_one : r.live ≡ true → (closed_job r e i).met ≡ false → History p (outcomes_of (closed_job r e i ∷ jobs)) (closed r false)
  missed_one l m = rw m (close false l h)

  passed_kept : (closed_job r e i).met ≡ false → History p (outcomes_of (jobs_with r (expired r e.time) e i jobs)) (expired r e.time)
  passed_kept m = go (expiry r e.time)
    where
      go : {q : Record} → Expired r e.time q → History p (outcomes_of (jobs_with r q e i jobs)) q
      go (over l d) = rw (closes_idle r (closed r false) l (closed_idle r false)) (missed_one l m)
      go (stays d) = rw (closes_stays r) h

  completed_kept : (closed_job r e i).met ≡ true → (expired r e.time).live ≡ true
      → History p (outcomes_of (jobs_with r (closed (expired r e.time) true) e i jobs)) (closed (expired r e.time) true)
  completed_kept m l =
      let same = expired_open r e.time l in
      let live : r.live ≡ true = subst (λ (q : Record). q.live ≡ true) same l in
      rw (same, closes_idle r (closed r true) live (closed_idle r true), m) (close true live h)

  reopened-kept : (closed_job r e i).met ≡ false
      → History p (outcomes_of (jobs_with r (reopened (expired r e.time) e.time) e i jobs)) (reopened (expired r e.time) e.time)
  reopened-kept m = go (expiry r e.time)
    where
      opens : (q : Record) (js : List Job) → q.released ≡ r.released → q.live ≡ false → History p (outcomes_of js) q
          → History p (outcomes_of js) (opened q e.time)
      opens q js s l k = release {r = q} e.time l (omega (arith, s, g.spaced, g.past)) k

      gone : (q : Record) → q ≡ closed r false → r.live ≡ true → History p (outcomes_of (jobs_with r (opened q e.time) e i jobs)) (opened q e.time)
      gone q is l =
          let s : q.released ≡ r.released = ap (λ (x : Record). x.released) is ∙ (closed_same r false).released in
          rw (closes_next r (opened q e.time) l (later_number r clock e g short q s))
          (opens q (closed_job r e i ∷ jobs) s (ap (λ (x : Record). x.live) is ∙ closed_idle r false)
          (subst (λ (x : Record). History p (outcomes_of (closed_job r e i ∷ jobs)) x) (sym is) (missed_one l m)))

      by_live : (b : Bool) → r.live ≡ b → History p (outcomes_of (jobs_with r (reopened r e.time) e i jobs)) (reopened r e.time)
      by_live true l = gone (cleared r) (cleared_open r l) l
      by_live false l =
          let is = cleared_none r l in
          rw (closes_none r (reopened r e.time) l, is) (opens r jobs refl l h)

      go : {q : Record} → Expired r e.time q → History p (outcomes_of (jobs_with r (reopened q e.time) e i jobs)) (reopened q e.time)
      go (over l d) = gone (cleared (closed r false)) (cleared_none (closed r false) (closed_idle r false)) l
      go (stays d) = by_live r.live refl

-- one event, whatever it is
module _ (s : State) (e : Event) (g : StateSound s) (i : ℕ) (h : i < s.count) where
  next_history : (p : Task) (jobs : List Job) → History p (outcomes_of jobs) (record_at s i)
      → History p (outcomes_of (jobs_with (record_at s i) (record_at (applied s e).state i) e i jobs)) (record_at (applied s e).state i)
  next_history p jobs k = go (becomes s e g i h)
    where
      go : {b : Bool} {q : Record} → Becomes s e i b q → History p (outcomes_of (jobs_with (record_at s i) q e i jobs)) q
      go same = rw (closes_stays (record_at s i)) k
      go (passes m o) = passed_kept p (record_at s i) s.clock e i jobs k (g.each i h) g.clock m
      go (reopens m o) = reopened-kept p (record_at s i) s.clock e i jobs k (g.each i h) g.clock m
      go (finishes m o l) = completed_kept p (record_at s i) s.clock e i jobs k (g.each i h) g.clock m l

  -- a job that stays open stays as it opened
  stays_open : (record_at s i).live ≡ true → closes (record_at s i) (record_at (applied s e).state i) ≡ false → record_at (applied s e).state i ≡ record_at s i
  stays_open l = go (becomes s e g i h)
    where
      go : {b : Bool} {q : Record} → Becomes s e i b q → closes (record_at s i) q ≡ false → q ≡ record_at s i
      go same n = refl
      go (passes m o) n = side (expiry (record_at s i) e.time) n
        where
          side : {q : Record} → Expired (record_at s i) e.time q → closes (record_at s i) q ≡ false → q ≡ record_at s i
          side (over o d) n =
              absurd (true_not_false (sym (closes_idle (record_at s i) (closed (record_at s i) false) l (closed_idle (record_at s i) false)) ∙ n))
          side (stays d) n = refl
      go (reopens m o) n =
          let q = cleared (expired (record_at s i) e.time) in
          let z = (cleared_same (expired (record_at s i) e.time)).released ∙ (expired_same (record_at s i) e.time).released in
          let more = later_number (record_at s i) s.clock e (g.each i h) g.clock q z in
          absurd (true_not_false (sym (closes_next (record_at s i) (opened q e.time) l more) ∙ n))
      go (finishes m o v) n =
          absurd (true_not_false (sym (closes_idle (record_at s i) (closed (passed s e i) true) l (closed_idle (passed s e i) true)) ∙ n))

-- a record's numbers are those of its task's closed jobs
pub record Tallied (task : Task) (jobs : List Job) (r : Record) : Type 0 where
  pub met : r.met ≡ mets (outcomes_of jobs)
  pub missed : r.missed ≡ misses (outcomes_of jobs)
  pub released : r.released ≡ length (outcomes_of jobs) + one_if r.live
  pub window : window_of r ≡ last_misses task.k (outcomes_of jobs)
  pub broken : r.broken ≡ first_over task.m task.k (outcomes_of jobs)

-- the jobs of a task close in the order of their numbers, from 1 on
abbrev pub Numbered : List Job → Type 0
Numbered [] = Unit
Numbered (j ∷ jobs) = (j.number ≡ suc (length (outcomes_of jobs))) × Numbered jobs

-- the class of a job is the larger of 0 and the level that the jobs before it leave
abbrev pub Classed : Task → List Job → Type 0
Classed task [] = Unit
Classed task (j ∷ jobs) = (j.class ≡ class_of (rung_after task (outcomes_of jobs)).level) × Classed task jobs

pub closing_open : (r q : Record) → closes r q ≡ true → r.live ≡ true
closing_open r q e = (both_hold r.live (cond q.live (cond (eqb q.released r.released) false true) true) e).0

module _ (t : Table) (good : judged t ≡ Accepted) where
  abbrev from : State
  from = fresh_state t

  -- the closed jobs of a task, with its record, are a history of that task
  pub history : (es : List Event) (i : ℕ) → i < t.count → History (task_at t i) (outcomes_of (jobs_of from es i)) (run_record from es i)
  unfolding run_state jobs_of
  history [] i h = rw (fresh_at t good i h) start
  history (e ∷ es) i h =
      let r = reached t good es in
      next_history (run_state from es) e r.sound i (rw r.count h) (task_at t i) (jobs_of from es i) (history es i h)

  pub tallied : (es : List Event) (i : ℕ) → i < t.count → Tallied (task_at t i) (jobs_of from es i) (run_record from es i)
  tallied es i h =
      let k = history es i h in
      let c = counts k in
      let rules = ((fault_none (task_at t i)).0 (((judged_accepted t).0 good).1 i h)).1 in
      record { met = c.met; missed = c.missed; released = c.released; window = window_is rules k; broken = broken_is rules k }

  -- the class, number and release of a closed job are those that it opened with
  pub untouched : (es : List Event) (e : Event) (i : ℕ) → i < t.count → (run_record from es i).live ≡ true
      → closes (run_record from es i) (run_record from (e ∷ es) i) ≡ false → run_record from (e ∷ es) i ≡ run_record from es i
  unfolding run_state
  untouched es e i h l n =
      let r = reached t good es in
      stays_open (run_state from es) e r.sound i (rw r.count h) l n

  pub numbered : (es : List Event) (i : ℕ) → i < t.count → Numbered (jobs_of from es i)
  unfolding jobs_of
  numbered [] i h = tt
  numbered (e ∷ es) i h = go (closes (run_record from es i) (run_record from (e ∷ es) i)) refl (numbered es i h)
    where
      go : (b : Bool) → closes (run_record from es i) (run_record from (e ∷ es) i) ≡ b → Numbered (jobs_of from es i)
          → Numbered (cond b (closed_job (run_record from es i) e i ∷ jobs_of from es i) (jobs_of from es i))
      go true q k =
          let l = closing_open (run_record from es i) (run_record from (e ∷ es) i) q in
          (omega (arith, rw l at (tallied es i h).released), k)
      go false q k = k

  pub classed : (es : List Event) (i : ℕ) → i < t.count → Classed (task_at t i) (jobs_of from es i)
  unfolding jobs_of
  classed [] i h = tt
  classed (e ∷ es) i h = go (closes (run_record from es i) (run_record from (e ∷ es) i)) refl (classed es i h)
    where
      go : (b : Bool) → closes (run_record from es i) (run_record from (e ∷ es) i) ≡ b → Classed (task_at t i) (jobs_of from es i)
          → Classed (task_at t i) (cond b (closed_job (run_record from es i) e i ∷ jobs_of from es i) (jobs_of from es i))
      go true q k =
          let l = closing_open (run_record from es i) (run_record from (e ∷ es) i) q in
          let run = history es i h in
          (class-is run l ∙ ap (λ (x : Rung). class_of x.level) (rung_is run), k)
      go false q k = k
