-- The guarantee is not empty: the events of the worked listing, as far as they obey the premise, are an instance, and so is a run whose task
-- misses m times outside the required class. By computation.
use Prim.Native.Nat.{ℕ}
use mathlib.Core.Path.{◌≡◌, refl}
use mathlib.Core.Bool.{Bool, true, false}
use mathlib.Core.List.{List, [], ◌∷◌}
use native.Mathlib.Omega.{arith}
use lib.Dec.{lit<}
use lib.ListN.{replicate}
use Rattle.event_reading.specs.declared.Event.{Event}
use Rattle.table_rules.specs.declared.Task.{Task}
use Rattle.table_rules.specs.declared.Table.{Table}
use Rattle.table_rules.specs.Answers.{Accepted}
use Rattle.table_rules.specs.Rules.{no_task}
use Rattle.task_records.specs.Window.{window_of}
use Rattle.state_rules.specs.State.{fresh_state}
use Rattle.bound_all.specs.Asked.{bound_cell, all_answer}
use Rattle.bound_all.proofs.Computing.{bounds_compute}
use Rattle.run_histories.specs.History.{Job, run_record, jobs_of}
use Rattle.guarantee.specs.Premise.{Premise}
use Rattle.guarantee.specs.Guarantee.{Promise}
use Rattle.run_histories.proofs.InOrder.{onto}
use Rattle.guarantee.proofs.Trying.{premise_by}
use Rattle.guarantee.proofs.Theorem.{guarantee}
use Rattle.guarantee.proofs.Computing.{run_computes}

abbrev pub task_of : ℕ → ℕ → ℕ → ℕ → ℕ → Task
task_of c d t m k = record { c = c; d = d; t = t; m = m; k = k }

abbrev pub releases : ℕ → ℕ → Event
releases task time = record { kind = 1; task = task; job = 0; time = time }

abbrev pub finishes : ℕ → ℕ → ℕ → Event
finishes task job time = record { kind = 2; task = task; job = job; time = time }

abbrev pub ticks : ℕ → Event
ticks time = record { kind = 0; task = 0; job = 0; time = time }

abbrev pub job_of : ℕ → ℕ → ℕ → ℕ → Bool → Job
job_of number release class closing met = record { number = number; release = release; class = class; closing = closing; met = met }

-- the rules' table: bounds 2 and 7
abbrev pub listed : Table
listed = record { count = 2; tasks = task_of 2 4 4 1 2 ∷ task_of 3 7 8 1 3 ∷ replicate 14 no_task }

listed_bounds : (all_answer listed 16 ≡ Accepted) × (bound_cell listed 0 ≡ 2) × (bound_cell listed 1 ≡ 7)
unfolding bounds_compute
listed_bounds = (refl, refl, refl)

-- its first seven events, newest first; the fourth is refused 11 and the seventh 12
abbrev pub seven : List Event
seven =
    finishes 0 1 6 ∷ finishes 1 1 5 ∷ releases 0 4 ∷ releases 0 3 ∷ finishes 0 1 2 ∷ releases 1 0 ∷ releases 0 0 ∷ []

-- the same in the rules' order
pub seven_in_order : onto (releases 0 0 ∷ releases 1 0 ∷ finishes 0 1 2 ∷ releases 0 3 ∷ releases 0 4 ∷ finishes 1 1 5 ∷ finishes 0 1 6 ∷ []) [] ≡ seven
seven_in_order = refl

pub seven_obey : Premise (fresh_state listed) seven
unfolding run_computes
seven_obey = premise_by (fresh_state listed) seven refl

pub seven_jobs : (jobs_of (fresh_state listed) seven 0 ≡ job_of 1 0 0 2 true ∷ []) × (jobs_of (fresh_state listed) seven 1 ≡ job_of 1 0 0 5 true ∷ [])
unfolding run_computes
seven_jobs = (refl, refl)

pub seven_kept : Promise listed (fresh_state listed) seven 0 × Promise listed (fresh_state listed) seven 1
seven_kept = (guarantee listed 16 listed_bounds.0 seven seven_obey 0 (lit< tt), guarantee listed 16 listed_bounds.0 seven seven_obey 1 (lit< tt))

-- the eighth, the tick at 9, does not obey it: job 2 of task 0 is open and has had its 2 ticks at 7
pub eighth_late : Premise (fresh_state listed) (ticks 9 ∷ seven) → ⊥
unfolding Premise run_computes
eighth_late p = omega (arith, (p.1 refl 0 7 (lit< tt) refl (omega arith)).not_after)

-- a task of (2,3) beside a hard one: it misses two jobs in a row in class 1, both times while the hard task has the processor
abbrev pub shared : Table
shared = record { count = 2; tasks = task_of 1 2 4 2 3 ∷ task_of 3 8 8 0 1 ∷ replicate 14 no_task }

shared_bounds : (all_answer shared 16 ≡ Accepted) × (bound_cell shared 0 ≡ 1) × (bound_cell shared 1 ≡ 4)
unfolding bounds_compute
shared_bounds = (refl, refl, refl)

abbrev pub twice : List Event
twice =
    finishes 0 4 21
    ∷ releases 0 20
    ∷ finishes 1 2 15
    ∷ releases 0 12
    ∷ releases 1 12
    ∷ finishes 1 1 7
    ∷ releases 0 4
    ∷ releases 1 4
    ∷ finishes 0 1 1
    ∷ releases 0 0
    ∷ []

pub twice_obey : Premise (fresh_state shared) twice
unfolding run_computes
twice_obey = premise_by (fresh_state shared) twice refl

pub twice_jobs : jobs_of (fresh_state shared) twice 0 ≡ job_of 4 20 0 21 true ∷ job_of 3 12 1 15 false ∷ job_of 2 4 1 7 false ∷ job_of 1 0 0 1 true ∷ []
unfolding run_computes
twice_jobs = refl

-- the window holds m misses, and is kept
pub twice_window : (window_of (run_record (fresh_state shared) twice 0) ≡ 2) × Promise shared (fresh_state shared) twice 0
unfolding run_computes
twice_window = (refl, guarantee shared 16 shared_bounds.0 twice twice_obey 0 (lit< tt))
