-- What one event adds: in a sound state an accepted completion of task i, and no other event, closes a met job of task i, with the response that is tallied,
-- and that is at most D. By what a record becomes.
use Prim.Native.Nat.{ℕ, ◌≤◌, ◌<◌}
use mathlib.Core.Path.{◌≡◌, refl, sym, subst, ◌∙◌}
use mathlib.Core.Bool.{Bool, true, false, cond}
use mathlib.Core.List.{List, ◌∷◌}
use native.Mathlib.Decide.{ℕ_discrete}
use native.Mathlib.Omega.{arith}
use borrow.Author.Tests.{eqb-true, eq-eqb, ne_eqb}
use lib.Dec.{eqb}
use lib.ListN.{length, set, length-set}
use lib.Seq.{get_or-set_same, get_or-set_other}
use Rattle.laws.proofs.Tests.{true_not_false, cond_no, both_hold, test_false}
use Rattle.event_reading.specs.declared.Event.{Event}
use Rattle.event_reading.specs.Event.{a_completion}
use Rattle.task_records.specs.declared.Record.{Record}
use Rattle.task_records.specs.Closing.{closed}
use Rattle.task_records.proofs.Steps.{closed_idle}
use Rattle.task_steps.specs.Own.{reopened}
use Rattle.state_rules.specs.declared.State.{State}
use Rattle.state_rules.specs.State.{record_at}
use Rattle.state_rules.specs.Sound.{StateSound}
use Rattle.apply_events.specs.Answer.{Applied}
use Rattle.apply_events.specs.Apply.{applied}
use Rattle.apply_events.proofs.Happened.{Happened, refusal, acceptance, happened}
use Rattle.run_histories.specs.History.{Job, accepts, closes, completes, closed_job}
use Rattle.run_histories.proofs.Steps.{Expired, over, stays, expiry, expired_open}
use Rattle.run_histories.proofs.Closes.{jobs_with, closes_stays, closes_idle}
use Rattle.run_histories.proofs.Taken.{passed, Becomes, same, passes, reopens, finishes, becomes}
use Rattle.tally_rules.specs.declared.Tallies.{Tallies}
use Rattle.tally_rules.specs.Tally.{no_tally, tally_at, taken}
use Rattle.tally_histories.specs.Events.{response_of, closes_met, response_at, tallied}
use Rattle.tally_histories.specs.Responses.{responses_of}

-- the event, accepted or not, is an accepted completion of task i
abbrev adds_if : Bool → Event → ℕ → Bool
adds_if b e i = cond (cond b (eqb e.kind a_completion) false) (eqb e.task i) false

abbrev pub adds : State → Event → ℕ → Bool
adds s e i = adds_if (accepts (applied s e).answer) e i

-- a missed job has no response
missed_none : (b : Bool) (j : Job) (jobs : List Job) → j.met ≡ false → responses_of (cond b (j ∷ jobs) jobs) ≡ responses_of jobs
missed_none true j jobs m = rw m
missed_none false j jobs m = refl

-- an event that is accepted has its task among the state's
pub met_task : (s : State) (e : Event) → closes_met s e ≡ true → e.task < s.count
met_task s e = go (happened s e)
  where
    go : {a : Applied} → Happened s e a → cond (accepts a.answer) (eqb e.kind a_completion) false ≡ true → e.task < s.count
    go (refusal n z v) q = absurd (true_not_false (sym q))
    go (acceptance h c o) q = c

-- no event adds to a place past the last task
pub adds_none : (s : State) (e : Event) (i : ℕ) → s.count ≤ i → adds s e i ≡ false
adds_none s e i h =
    test_false (adds s e i) (both_hold (closes_met s e) (eqb e.task i))
    (λ b. absurd (omega (arith, met_task s e b.0, eqb-true e.task i b.1)))

-- a job is not met before its release
pub met_after : (s : State) (e : Event) → StateSound s → closes_met s e ≡ true → (record_at s e.task).last ≤ e.time
met_after s e g = go (happened s e)
  where
    go : {a : Applied} → Happened s e a → cond (accepts a.answer) (eqb e.kind a_completion) false ≡ true → (record_at s e.task).last ≤ e.time
    go (refusal n z v) q = absurd (true_not_false (sym q))
    go (acceptance h c o) q = omega (arith, h.onward, (g.each e.task c).past)

module _ (s : State) (e : Event) (g : StateSound s) (i : ℕ) (h : i < s.count) where
  abbrev r : Record
  r = record_at s i

  abbrev q : Record
  q = record_at (applied s e).state i

  -- the responses of task i's met jobs after the event
  pub one_more : (jobs : List Job)
      → responses_of (jobs_with r q e i jobs) ≡ cond (adds s e i) (response_of r e ∷ responses_of jobs) (responses_of jobs)
  one_more jobs = go (becomes s e g i h)
    where
      go : {b : Bool} {x : Record} → Becomes s e i b x
          → responses_of (jobs_with r x e i jobs) ≡ cond (adds_if b e i) (response_of r e ∷ responses_of jobs) (responses_of jobs)
      go same = rw (closes_stays r)
      go (passes m o) = missed_none (closes r (passed s e i)) (closed_job r e i) jobs m ∙ sym (cond_no (completes e i) _ _ m)
      go (reopens m o) =
          missed_none (closes r (reopened (passed s e i) e.time)) (closed_job r e i) jobs m ∙ sym (cond_no (completes e i) _ _ m)
      go (finishes m o l) =
          let live : r.live ≡ true = subst (λ (x : Record). x.live ≡ true) (expired_open r e.time l) l in
          rw (closes_idle r (closed (passed s e i) true) live (closed_idle (passed s e i) true), m)

  -- the job that it closes was not past its deadline
  pub in_time : adds s e i ≡ true → response_of r e ≤ r.task.d
  in_time = go (becomes s e g i h)
    where
      side : {x : Record} → Expired r e.time x → x.live ≡ true → response_of r e ≤ r.task.d
      side (over o d) l = absurd (true_not_false (sym l ∙ closed_idle r false))
      side (stays d) l = omega (arith, d l)

      go : {b : Bool} {x : Record} → Becomes s e i b x → adds_if b e i ≡ true → response_of r e ≤ r.task.d
      go same a = absurd (true_not_false (sym a))
      go (passes m o) a = absurd (true_not_false (sym a ∙ m))
      go (reopens m o) a = absurd (true_not_false (sym a ∙ m))
      go (finishes m o l) a = side (expiry r e.time) l

-- ---- the tallies

module _ (s : State) (ts : Tallies) (e : Event) where
  -- task i's tally after the event
  pub tally_of_lem : s.count ≤ length ts.row → (i : ℕ)
      → tally_at (tallied s ts e) i ≡ cond (adds s e i) (taken (tally_at ts i) (response_of (record_at s i) e)) (tally_at ts i)
  tally_of_lem room i = go (closes_met s e) refl (ℕ_discrete i e.task)
    where
      go : (b : Bool) → closes_met s e ≡ b → Dec (i ≡ e.task)
          → tally_at (cond b (record { row = set ts.row e.task (taken (tally_at ts e.task) (response_at s e)) }) ts) i
          ≡ cond (cond b (eqb e.task i) false) (taken (tally_at ts i) (response_of (record_at s i) e)) (tally_at ts i)
      go false c d = refl
      go true c (yes z) =
          rw (z, eq-eqb e.task e.task refl)
          (get_or-set_same ts.row e.task (taken (tally_at ts e.task) (response_at s e)) no_tally (omega (arith, met_task s e c)))
      go true c (no z) =
          rw (ne_eqb e.task i (λ y. z (sym y)))
          (get_or-set_other ts.row e.task i (taken (tally_at ts e.task) (response_at s e)) no_tally z)

  -- the row keeps its length
  pub row_length : length (tallied s ts e).row ≡ length ts.row
  row_length = go (closes_met s e)
    where
      go : (b : Bool)
          → length (cond b (record { row = set ts.row e.task (taken (tally_at ts e.task) (response_at s e)) }) ts).row ≡ length ts.row
      go true = length-set ts.row e.task (taken (tally_at ts e.task) (response_at s e))
      go false = refl
