-- No hypothesis of the guarantee can go: for each a run that obeys all the others and breaks a promise. By computation.
use Prim.Native.Nat.{ℕ, ◌-◌, ◌≤◌, ◌<◌}
use mathlib.Core.Path.{◌≡◌, refl, sym, ◌∙◌}
use mathlib.Core.Bool.{true, false, cond}
use mathlib.Core.List.{List, [], ◌∷◌}
use borrow.Author.Tests.{eq-eqb}
use native.Mathlib.Omega.{arith}
use lib.Dec.{eqb}
use lib.IntN.{pos}
use lib.ListN.{replicate}
use Rattle.laws.proofs.Tests.{true_not_false}
use Rattle.event_reading.specs.declared.Event.{Event}
use Rattle.table_rules.specs.declared.Table.{Table}
use Rattle.table_rules.specs.Answers as Answer
use Rattle.table_rules.specs.Rules.{task_fault, no_task}
use Rattle.task_records.specs.declared.Record.{Record}
use Rattle.task_steps.specs.Opening.{fresh, no_record}
use Rattle.task_records.specs.Window.{window_of}
use Rattle.task_soundness.specs.Sound.{sound_holds}
use Rattle.state_rules.specs.declared.State.{State}
use Rattle.state_rules.specs.State.{fresh_state}
use Rattle.state_rules.specs.Sound.{each_holds, state_holds}
use Rattle.bound_one.specs.Bound as Bound
use Rattle.bound_all.specs.Asked.{all_answer}
use Rattle.bound_all.proofs.Computing.{bounds_compute}
use Rattle.bound_one.specs.Asked.{one_answer}
use Rattle.run_histories.specs.History.{Job, run_record, jobs_of}
use Rattle.guarantee.specs.Premise.{Premise}
use Rattle.guarantee.specs.Guarantee.{Promise}
use Rattle.guarantee.proofs.Trying.{Obeys, obeys_by, premise_by}
use Rattle.guarantee.proofs.Listing.{task_of, releases, finishes, ticks, job_of}
use Rattle.guarantee.proofs.Computing.{run_computes}

-- the newest closed job of a task was of the required class, and missed
not_kept : (t : Table) (s : State) (es : List Event) (i : ℕ) (j : Job) (jobs : List Job)
    → jobs_of s es i ≡ j ∷ jobs → j.class ≡ 0 → j.met ≡ false → Promise t s es i → ⊥
not_kept t s es i j jobs e c m p = true_not_false (sym ((rw e at p.required).0 c).0 ∙ m)

-- ---- events after x: one task of C 1 and D 1, whose job has had its tick at 1, and a tick at 2

abbrev pub OnlyReleases : Event → ℕ → Type 0
OnlyReleases e x = e.kind ≡ 1 → e.time < x

abbrev alone : Table
alone = record { count = 1; tasks = task_of 1 1 5 1 2 ∷ replicate 15 no_task }

abbrev late : List Event
late = ticks 2 ∷ releases 0 0 ∷ []

alone_accepted : all_answer alone 16 ≡ Answer.Accepted
unfolding bounds_compute
alone_accepted = refl

late_obeys : Obeys OnlyReleases (fresh_state alone) late
unfolding run_computes
late_obeys = obeys_by OnlyReleases (λ e. cond (eqb e.kind 1) e.time 0) (λ e x h k. rw (eq-eqb _ _ k) at h) (fresh_state alone) late refl

late_jobs : jobs_of (fresh_state alone) late 0 ≡ job_of 1 0 0 2 false ∷ []
unfolding run_computes
late_jobs = refl

pub without_after : (all_answer alone 16 ≡ Answer.Accepted) × Obeys OnlyReleases (fresh_state alone) late × (Promise alone (fresh_state alone) late 0 → ⊥)
without_after = (alone_accepted, late_obeys, not_kept alone (fresh_state alone) late 0 (job_of 1 0 0 2 false) [] late_jobs refl refl)

-- the tick itself closes the job: a premise on the jobs that are open after an event, and not as it arrives, would let this run through
pub open_as_it_arrives : (run_record (fresh_state alone) late 0).live ≡ false
unfolding run_computes
open_as_it_arrives = refl

-- ---- releases at x: one hard task of C, D and T 2, whose job has had its ticks at 2, and its next release at 2

abbrev pub OnlyAfter : Event → ℕ → Type 0
OnlyAfter e x = e.time ≤ x

abbrev tight : Table
tight = record { count = 1; tasks = task_of 2 2 2 0 1 ∷ replicate 15 no_task }

abbrev again : List Event
again = releases 0 2 ∷ releases 0 0 ∷ []

tight_accepted : all_answer tight 16 ≡ Answer.Accepted
unfolding bounds_compute
tight_accepted = refl

again_obeys : Obeys OnlyAfter (fresh_state tight) again
unfolding run_computes
again_obeys = obeys_by OnlyAfter (λ e. e.time - 1) (λ e x h. omega arith) (fresh_state tight) again refl

again_jobs : jobs_of (fresh_state tight) again 0 ≡ job_of 1 0 0 2 false ∷ []
unfolding run_computes
again_jobs = refl

pub without_releases : (all_answer tight 16 ≡ Answer.Accepted) × Obeys OnlyAfter (fresh_state tight) again × (Promise tight (fresh_state tight) again 0 → ⊥)
without_releases = (tight_accepted, again_obeys, not_kept tight (fresh_state tight) again 0 (job_of 1 0 0 2 false) [] again_jobs refl refl)

-- ---- every task has a bound: the third task has one, the second has none, and the third misses a required job

abbrev crowded : Table
crowded = record { count = 3; tasks = task_of 1 1 5 3 4 ∷ task_of 1 1 6 1 2 ∷ task_of 1 3 3 3 4 ∷ replicate 13 no_task }

abbrev starved : List Event
starved = releases 2 3 ∷ finishes 0 1 1 ∷ releases 2 0 ∷ releases 1 0 ∷ releases 0 0 ∷ []

crowded_bounds : (all_answer crowded 16 ≡ Answer.Refused 13 1) × (one_answer crowded 2 ≡ Bound.At 3)
unfolding bounds_compute
crowded_bounds = (refl, refl)

starved_obeys : Premise (fresh_state crowded) starved
unfolding run_computes
starved_obeys = premise_by (fresh_state crowded) starved refl

starved_jobs : jobs_of (fresh_state crowded) starved 2 ≡ job_of 1 0 0 3 false ∷ []
unfolding run_computes
starved_jobs = refl

pub without_bounds : (one_answer crowded 2 ≡ Bound.At 3) × Premise (fresh_state crowded) starved × (Promise crowded (fresh_state crowded) starved 2 → ⊥)
without_bounds = (crowded_bounds.1, starved_obeys, not_kept crowded (fresh_state crowded) starved 2 (job_of 1 0 0 3 false) [] starved_jobs refl refl)

-- ---- the fresh start: of a sound state, clock 0, in which a task of (1,2) has missed its last job and still stands in class 1

abbrev pair : Table
pair = record { count = 2; tasks = task_of 1 2 4 1 2 ∷ task_of 3 8 8 0 1 ∷ replicate 14 no_task }

pair_accepted : all_answer pair 16 ≡ Answer.Accepted
unfolding bounds_compute
pair_accepted = refl

abbrev missed_once : Record
missed_once =
    record {
      task = task_of 1 2 4 1 2;
      level = pos 1;
      run = 0;
      live = false;
      class = 0;
      last = 0;
      released = 1;
      met = 0;
      missed = 1;
      marks = 1;
      broken = 0;
    }

abbrev stale : State
stale = record { count = 2; clock = 0; records = missed_once ∷ fresh (task_of 3 8 8 0 1) ∷ replicate 14 no_record }

-- the hard task keeps the processor, and the next job is missed too
abbrev second : List Event
second = finishes 1 1 7 ∷ releases 0 4 ∷ releases 1 4 ∷ []

stale_sound : state_holds stale ≡ true
unfolding state_holds each_holds sound_holds task_fault
stale_sound = refl

second_obeys : Premise stale second
unfolding run_computes
second_obeys = premise_by stale second refl

second_window : window_of (run_record stale second 0) ≡ 2
unfolding run_computes
second_window = refl

pub without_fresh : (all_answer pair 16 ≡ Answer.Accepted) × (state_holds stale ≡ true) × Premise stale second × (Promise pair stale second 0 → ⊥)
without_fresh = (pair_accepted, stale_sound, second_obeys, λ p. omega (arith, p.windows.window, second_window))
