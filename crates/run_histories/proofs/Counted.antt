-- A record's counts are those of the run's events: an event adds to `released` exactly if it is an accepted release of the task, and its job was met exactly if
-- the event that closed it is an accepted completion. By what a record becomes, event by event.
use Prim.Native.Nat.{ℕ, ◌+◌, ◌<◌}
use mathlib.Core.Path.{◌≡◌, refl, ap, subst, ◌∙◌}
use mathlib.Core.Bool.{Bool, true, false, cond}
use mathlib.Core.List.{List, [], ◌∷◌}
use native.Mathlib.Omega.{arith}
use Rattle.laws.specs.Numbers.{one_if}
use Rattle.laws.proofs.Tests.{cond_same}
use Rattle.event_reading.specs.declared.Event.{Event}
use Rattle.table_rules.specs.declared.Table.{Table}
use Rattle.table_rules.specs.Answers.{Accepted}
use Rattle.table_rules.specs.Judging.{judged}
use Rattle.task_records.specs.declared.Record.{Record}
use Rattle.task_records.specs.Closing.{closed}
use Rattle.task_records.proofs.Steps.{closed_idle}
use Rattle.task_steps.specs.Opening.{expired, opened}
use Rattle.state_rules.specs.declared.State.{State}
use Rattle.state_rules.specs.State.{record_at, fresh_state}
use Rattle.state_rules.specs.Sound.{StateSound}
use Rattle.state_rules.proofs.Starting.{fresh_at}
use Rattle.run_windows.specs.Outcomes.{mets, misses}
use Rattle.task_steps.specs.Own.{reopened}
use Rattle.apply_events.specs.Apply.{applied}
use Rattle.run_histories.specs.History.{Job, run_state, run_record, accepts, closes, completes, closed_job, jobs_of, outcomes_of}
use Rattle.run_histories.specs.Counted.{releases, releases_of, completions_of, losses_of}
use Rattle.run_histories.proofs.Steps.{closed_same, cleared, cleared_same, expired_same, expired_open}
use Rattle.run_histories.proofs.Closes.{closes_stays, closes_idle}
use Rattle.run_histories.proofs.Taken.{passed, Becomes, same, passes, reopens, finishes, becomes}
use Rattle.run_histories.proofs.Reached.{reached}
use Rattle.run_histories.proofs.Jobs.{tallied}

-- ---- one event

module _ (s : State) (e : Event) (g : StateSound s) (i : ℕ) (h : i < s.count) where
  abbrev r : Record
  r = record_at s i

  abbrev q : Record
  q = record_at (applied s e).state i

  one_released : q.released ≡ one_if (cond (accepts (applied s e).answer) (releases e i) false) + r.released
  unfolding opened
  one_released = go (becomes s e g i h)
    where
      more : (x : Record) → x.released ≡ r.released → (opened x e.time).released ≡ 1 + r.released
      more x z = let p = g.each i h in omega (arith, z, p.spaced, p.past, g.clock)

      go : {b : Bool} {x : Record} → Becomes s e i b x → x.released ≡ one_if (cond b (releases e i) false) + r.released
      go same = omega arith
      go (passes m o) = rw o (omega (arith, (expired_same r e.time).released))
      go (reopens m o) =
          rw o (more (cleared (expired r e.time)) ((cleared_same (expired r e.time)).released ∙ (expired_same r e.time).released))
      go (finishes m o l) = rw o (omega (arith, (closed_same (passed s e i) true).released, (expired_same r e.time).released))

  -- a job is met exactly where the event that closes it is an accepted completion of its task
  one_met : cond (closes r q) (completes e i) false ≡ cond (accepts (applied s e).answer) (completes e i) false
  one_met = go (becomes s e g i h)
    where
      go : {b : Bool} {x : Record} → Becomes s e i b x → cond (closes r x) (completes e i) false ≡ cond b (completes e i) false
      go same = rw (closes_stays r)
      go (passes m o) = rw m (cond_same (closes r (passed s e i)) false)
      go (reopens m o) = rw m (cond_same (closes r (reopened (passed s e i) e.time)) false)
      go (finishes m o l) =
          let live : r.live ≡ true = subst (λ (x : Record). x.live ≡ true) (expired_open r e.time l) l in
          rw (closes_idle r (closed (passed s e i) true) live (closed_idle (passed s e i) true))

-- ---- the jobs of a run, counted by their outcomes

more_mets : (b : Bool) (j : Job) (js : List Job) → mets (outcomes_of (cond b (j ∷ js) js)) ≡ one_if (cond b j.met false) + mets (outcomes_of js)
more_mets false j js = omega arith
more_mets true j js = go j.met
  where
    go : (m : Bool) → mets (m ∷ outcomes_of js) ≡ one_if m + mets (outcomes_of js)
    go true = omega arith
    go false = omega arith

more_misses : (b : Bool) (j : Job) (js : List Job)
    → misses (outcomes_of (cond b (j ∷ js) js)) ≡ one_if (cond b (cond j.met false true) false) + misses (outcomes_of js)
more_misses false j js = omega arith
more_misses true j js = go j.met
  where
    go : (m : Bool) → misses (m ∷ outcomes_of js) ≡ one_if (cond m false true) + misses (outcomes_of js)
    go true = omega arith
    go false = omega arith

-- ---- every run

module _ (t : Table) (good : judged t ≡ Accepted) where
  abbrev from : State
  from = fresh_state t

  -- `released` is the number of accepted releases of the task
  pub released_counted : (es : List Event) (i : ℕ) → i < t.count → (run_record from es i).released ≡ releases_of from es i
  unfolding run_state releases_of
  released_counted [] i h = rw (fresh_at t good i h)
  released_counted (e ∷ es) i h =
      let r = reached t good es in
      one_released (run_state from es) e r.sound i (rw r.count h)
      ∙ ap (λ (n : ℕ). one_if (cond (accepts (applied (run_state from es) e).answer) (releases e i) false) + n) (released_counted es i h)

  met_jobs : (es : List Event) (i : ℕ) → i < t.count → mets (outcomes_of (jobs_of from es i)) ≡ completions_of from es i
  unfolding run_state jobs_of completions_of
  met_jobs [] i h = refl
  met_jobs (e ∷ es) i h =
      let r = reached t good es in
      let s = run_state from es in
      more_mets (closes (record_at s i) (record_at (applied s e).state i)) (closed_job (record_at s i) e i) (jobs_of from es i)
      ∙ ap (λ (b : Bool). one_if b + mets (outcomes_of (jobs_of from es i))) (one_met s e r.sound i (rw r.count h))
      ∙ ap (λ (n : ℕ). one_if (cond (accepts (applied s e).answer) (completes e i) false) + n) (met_jobs es i h)

  -- `met` is the number of its accepted completions
  pub met_counted : (es : List Event) (i : ℕ) → i < t.count → (run_record from es i).met ≡ completions_of from es i
  met_counted es i h = (tallied t good es i h).met ∙ met_jobs es i h

  missed_jobs : (es : List Event) (i : ℕ) → misses (outcomes_of (jobs_of from es i)) ≡ losses_of from es i
  unfolding run_state jobs_of losses_of
  missed_jobs [] i = refl
  missed_jobs (e ∷ es) i =
      let s = run_state from es in
      let b = closes (record_at s i) (record_at (applied s e).state i) in
      more_misses b (closed_job (record_at s i) e i) (jobs_of from es i)
      ∙ ap (λ (n : ℕ). one_if (cond b (cond (completes e i) false true) false) + n) (missed_jobs es i)

  -- `missed` is the number of the others that closed
  pub missed_counted : (es : List Event) (i : ℕ) → i < t.count → (run_record from es i).missed ≡ losses_of from es i
  missed_counted es i h = (tallied t good es i h).missed ∙ missed_jobs es i
