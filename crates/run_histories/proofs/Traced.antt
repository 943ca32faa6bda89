-- Every closed job of a run was opened by an accepted release at its release, with its number and class, and closed by an event at its closing: an open job's
-- record stands as the release left it, until the event that closes the job.
use Prim.Native.Nat.{ℕ, ◌<◌}
use mathlib.Core.Path.{◌≡◌, refl, sym, ap, subst, ◌∙◌}
use mathlib.Core.Bool.{Bool, true, false, cond}
use mathlib.Core.List.{List, [], ◌∷◌}
use borrow.Author.Tests.{eqb-true}
use lib.Dec.{eqb}
use Rattle.laws.proofs.Tests.{true_not_false, both_hold}
use Rattle.event_reading.specs.declared.Event.{Event}
use Rattle.table_rules.specs.declared.Table.{Table}
use Rattle.table_rules.specs.Answers.{Accepted}
use Rattle.table_rules.specs.Judging.{judged}
use Rattle.task_records.specs.declared.Record.{Record}
use Rattle.task_records.proofs.Steps.{closed_idle}
use Rattle.task_steps.specs.Opening.{opened}
use Rattle.state_rules.specs.declared.State.{State}
use Rattle.state_rules.specs.State.{record_at, fresh_state}
use Rattle.state_rules.proofs.Starting.{fresh_at}
use Rattle.apply_events.specs.Apply.{applied}
use Rattle.run_histories.specs.History.{Job, Each, run_state, run_record, is_accepted, closes, closed_job, jobs_of}
use Rattle.run_histories.specs.Traced.{Came, last, earlier, Opens, Traced}
use Rattle.run_histories.proofs.Steps.{expired_open}
use Rattle.run_histories.proofs.Taken.{passed, Becomes, same, passes, reopens, finishes, becomes}
use Rattle.run_histories.proofs.Reached.{reached}
use Rattle.run_histories.proofs.Jobs.{closing_open}

module _ (t : Table) (good : judged t ≡ Accepted) where
  abbrev from : State
  from = fresh_state t

  -- the open job of a record was opened in the run
  abbrev Opened : List Event → ℕ → Record → Type 0
  Opened es i r = Came (Opens from i r.released r.last r.class) es

  -- what stands open in a run was opened in it, with the class that the record still has
  pub open_traced : (es : List Event) (i : ℕ) → i < t.count → (run_record from es i).live ≡ true → Opened es i (run_record from es i)
  unfolding run_state opened
  open_traced [] i h l = absurd (true_not_false (sym l ∙ ap (λ (r : Record). r.live) (fresh_at t good i h)))
  open_traced (e ∷ es) i h l =
      let r = reached t good es in
      go (becomes (run_state from es) e r.sound i (rw r.count h)) (open_traced es i h) refl refl l
    where
      go : {b : Bool} {x : Record} → Becomes (run_state from es) e i b x
          → ((run_record from es i).live ≡ true → Opened es i (run_record from es i)) → is_accepted from es e ≡ b
          → record_at (applied (run_state from es) e).state i ≡ x
          → x.live ≡ true → Opened (e ∷ es) i x
      go same ih a z o = earlier (ih o)
      go (passes m n) ih a z o =
          let is = expired_open (run_record from es i) e.time o in
          subst (Opened (e ∷ es) i) (sym is) (earlier (ih (subst (λ (x : Record). x.live ≡ true) is o)))
      go (reopens m n) ih a z o =
          let k = both_hold (eqb e.kind 1) (eqb e.task i) n in
          last (
          record {
            accepted = a;
            kind = eqb-true e.kind 1 k.0;
            task = eqb-true e.task i k.1;
            time = refl;
            number = ap (λ (x : Record). x.released) z;
            class = ap (λ (x : Record). x.class) z;
          }
          )
      go (finishes m n v) ih a z o = absurd (true_not_false (sym o ∙ closed_idle (passed (run_state from es) e i) true))

  -- what was traced stays so when another event comes
  traced_on : (e : Event) (es : List Event) (i : ℕ) (js : List Job) → Each (Traced from es i) js → Each (Traced from (e ∷ es) i) js
  traced_on e es i [] k = tt
  traced_on e es i (j ∷ js) k = (record { opened = earlier k.0.opened; closed = earlier k.0.closed }, traced_on e es i js k.1)

  -- every closed job's release and closing are the times of the events that opened and closed it
  pub traced : (es : List Event) (i : ℕ) → i < t.count → Each (Traced from es i) (jobs_of from es i)
  unfolding jobs_of
  traced [] i h = tt
  traced (e ∷ es) i h =
      go (closes (run_record from es i) (run_record from (e ∷ es) i)) refl (traced_on e es i (jobs_of from es i) (traced es i h)) (open_traced es i h)
    where
      go : (b : Bool) → closes (run_record from es i) (run_record from (e ∷ es) i) ≡ b → Each (Traced from (e ∷ es) i) (jobs_of from es i)
          → ((run_record from es i).live ≡ true → Opened es i (run_record from es i))
          → Each (Traced from (e ∷ es) i) (cond b (closed_job (run_record from es i) e i ∷ jobs_of from es i) (jobs_of from es i))
      go true q k o = (
        record {
          opened = earlier (o (closing_open (run_record from es i) (run_record from (e ∷ es) i) q));
          closed = last (record { closed = q; time = refl; number = refl });
        },
        k,
      )
      go false q k o = k
