-- The moments of a run: the engine's choice has every tick up to the next accepted event, so the premise gives what the counting argument asks, and each
-- event keeps it. By induction on the events.
use Prim.Native.Nat.{ℕ, ◌+◌, ◌-◌, ◌≤◌, ◌<◌, min}
use mathlib.Core.Path.{◌≡◌, refl, sym, ap, subst, ◌∙◌}
use mathlib.Core.Bool.{true, false}
use mathlib.Core.List.{List, [], ◌∷◌}
use mathlib.Core.Logic.{inl, inr}
use native.Mathlib.Nat.{le_refl, min-eq_left}
use native.Mathlib.Decide.{ℕ_discrete}
use native.Mathlib.Omega.{arith}
use borrow.Author.Tests.{eq-eqb}
use lib.ListN.{length, set}
use Rattle.laws.proofs.Tests.{true_not_false, tells_true}
use Rattle.event_reading.specs.declared.Event.{Event}
use Rattle.table_rules.specs.declared.Task.{Task}
use Rattle.table_rules.specs.declared.Table.{Table}
use Rattle.table_rules.specs.Answers.{Accepted}
use Rattle.table_rules.specs.Judging.{judged}
use Rattle.table_rules.proofs.Exactly.{judged_accepted}
use Rattle.event_reading.specs.Event.{a_tick, a_release, a_completion}
use Rattle.task_records.specs.declared.Record.{Record}
use Rattle.task_records.specs.Closing.{closed}
use Rattle.task_soundness.proofs.Kept.{end}
use Rattle.state_rules.specs.declared.State.{State}
use Rattle.state_choice.specs.Best.{Best}
use Rattle.state_rules.specs.State.{record_at, fresh_state}
use Rattle.state_rules.specs.Choice.{chosen}
use Rattle.task_steps.proofs.Ranks.{Before}
use Rattle.state_choice.proofs.Least.{Chosen, Found, some, nothing, best_is}
use Rattle.state_rules.proofs.Starting.{fresh_at}
use Rattle.bound_demand.specs.Above.{task_at, is_above}
use Rattle.bound_demand.proofs.Order.{above_tells}
use Rattle.bound_demand.proofs.Obeyed.{deadline_most}
use Rattle.apply_events.specs.Answer.{Applied}
use Rattle.task_steps.specs.Own.{too_soon, reopened}
use Rattle.task_steps.proofs.OwnSteps.{tick, release, completion, in_turn, job_open}
use Rattle.apply_events.specs.Steps.{expired_all}
use Rattle.apply_events.specs.Apply.{accepted, applied}
use Rattle.apply_events.proofs.Happened.{Happened, refusal, acceptance, happened}
use Rattle.apply_events.proofs.Places.{places, stored_here, stored_else}
use Rattle.run_histories.specs.History.{run_state, run_record, accepts, is_accepted, jobs_of}
use Rattle.guarantee.specs.ChosenTime.{is_choice, open_time}
use Rattle.guarantee.specs.Premise.{Timely, Premise}
use Rattle.run_histories.proofs.Steps.{Same, expired_same, is_open_lem}
use Rattle.run_histories.proofs.Taken.{accepts_answer, passed}
use Rattle.run_histories.proofs.Reached.{Reached, reached}
use Rattle.run_histories.proofs.Closes.{closes_stays}
use Rattle.guarantee.proofs.Ticks.{time_rises, time_before, time_unmoved, time_chosen}
use Rattle.guarantee.proofs.Busy.{keep, rebase}
use Rattle.guarantee.proofs.Required.{fresh_fine}
use Rattle.guarantee.proofs.Levels.{up_to, up_itself, up_above, Moment, costs, view_of, Steady, Given}
use Rattle.guarantee.proofs.Passing.{Served, Picks, serves, idle}
use Rattle.guarantee.proofs.Acting.{on_tick, on_completion, on_release}

-- release + D
abbrev deadline : Record → ℕ
deadline r = r.last + r.task.d

-- what the open job of task i still wants
abbrev left_after : State → List Event → ℕ → ℕ
left_after s es i = (run_record s es i).task.c - open_time s es i (run_state s es).clock

-- and what it wants at the time of the next event
abbrev later_at : State → List Event → Event → ℕ → ℕ
later_at s es e i = (run_record s es i).task.c - open_time s es i e.time

-- the moment after a run
abbrev moment_at : State → List Event → ℕ → Moment
moment_at s es clock = record { clock = clock; rec = run_record s es; left = left_after s es; jobs = jobs_of s es }

-- the state after one more event, and before the first
next_state : (s : State) (es : List Event) (e : Event) → run_state s (e ∷ es) ≡ (applied (run_state s es) e).state
unfolding run_state
next_state s es e = refl

fresh_clock : (t : Table) → (run_state (fresh_state t) []).clock ≡ 0
unfolding run_state
fresh_clock t = refl

module _ (t : Table) (good : judged t ≡ Accepted) (bound space : ℕ → ℕ) (gate : ℕ → Record → ℕ) (quota : ℕ → ℕ → ℕ)
    (g : Given t.count (task_at t) (is_above t) bound space gate quota) where
  abbrev from : State
  from = fresh_state t

  abbrev Holds : Moment → Type 0
  Holds m = Steady t.count (task_at t) (is_above t) bound space gate quota m

  steady_fresh : Holds (moment_at from [] 0)
  unfolding jobs_of run_state
  steady_fresh =
      record {
        fine = λ i h. rw (fresh_at t good i h) (fresh_fine (task_at t i) (bound i) (((judged_accepted t).0 good).1 i h));
        busy =
            λ k h.
            rebase t.count 0 (bound k) (up_to (is_above t) k) (costs (task_at t)) space (quota k) (view_of gate (moment_at from [] 0))
            (λ i q u d. true_not_false (sym (rw (fresh_at t good i q) at d)));
      }

  module _ (es : List Event) (e : Event) where
    abbrev s : State
    s = run_state from es

    abbrev next : State
    next = run_state from (e ∷ es)

    -- each task's record before and after the event
    abbrev old : ℕ → Record
    old i = run_record from es i

    abbrev new : ℕ → Record
    new i = run_record from (e ∷ es) i

    abbrev m : Moment
    m = moment_at from es s.clock

    r : Reached t (run_state from es)
    r = reached t good es

    room : s.count ≤ length s.records
    room = places s r.sound

    inside : (i : ℕ) → i < t.count → i < s.count
    inside i h = rw r.count h

    -- ---- the event is refused: the state stands, and nothing has changed

    steady_refused : next ≡ s → Holds m → Holds (moment_at from (e ∷ es) next.clock)
    unfolding jobs_of
    steady_refused q inv =
        record {
          fine = λ i h. rw (q, closes_stays (old i)) (inv.fine i h);
          busy =
              λ k h.
              keep t.count 0 (bound k) (up_to (is_above t) k) (costs (task_at t)) space (quota k) (view_of gate m)
              (view_of gate (moment_at from (e ∷ es) next.clock)) (inv.busy k h)
              (record { due = λ i p u d. (rw q at d, rw q); gate = λ i p u. rw q (le_refl _) })
              (rw q) (le_refl 0)
              (λ i p u d. rw (time_unmoved from i (new i).released (deadline (new i)) e es q next.clock, q) (le_refl _));
        }

    -- ---- the event is accepted, and timely

    module _ (inv : Holds m) (onward : s.clock ≤ e.time) (timely : Timely from es e) where
      abbrev later : ℕ → ℕ
      later = later_at from es e

      near : (i : ℕ) → i < t.count → (old i).task.d ≤ 1000000
      near i h = rw (r.tasks i h) (deadline_most t good i h)

      -- the order of the choice is that of the classes, and in a class that of the tasks
      ahead : (j i : ℕ) → j < t.count → i < t.count → Before (old j) j (old i) i
          → ((old j).class ≤ (old i).class) × ((old j).class ≡ (old i).class → up_to (is_above t) i j ≡ true)
      ahead j i hj hi (inl k) =
          let dj = ap (λ (x : Task). x.d) (r.tasks j hj) in
          let di = ap (λ (x : Task). x.d) (r.tasks i hi) in
          (omega (arith, near j hj, near i hi), λ z. up_above (is_above t) j i (tells_true (above_tells t j i) (inl (omega arith))))
      ahead j i hj hi (inr (k, o)) =
          let dj = ap (λ (x : Task). x.d) (r.tasks j hj) in
          let di = ap (λ (x : Task). x.d) (r.tasks i hi) in
          (omega (arith, near j hj, near i hi), λ z. up_above (is_above t) j i (tells_true (above_tells t j i) (inr (omega arith, o))))

      served : (j : ℕ) → (chosen s).found ≡ true → (chosen s).at ≡ j → Chosen s.records t.count j
          → Served t.count (task_at t) (is_above t) bound space gate quota g m inv e.time onward (e.kind ≡ 1) later j
      served j f a c =
          record {
            below = c.below;
            live = c.live;
            first = λ i h l. by i h l (ℕ_discrete i j);
            waits =
                λ x lo hi.
                let w = timely j x c.below c.live (omega (arith, lo, grows x (omega arith) (omega (arith, at_d)))) in
                (w.not_after, w.no_release);
            gap = λ hi. omega (arith, grows e.time onward (omega (arith, at_d)));
          }
        where
          at_d : (old j).task.d ≡ (task_at t j).d
          at_d = ap (λ (x : Task). x.d) (r.tasks j c.below)

          is : is_choice s j (old j).released ≡ true
          is = rw (f, a, eq-eqb j j refl, eq-eqb (old j).released (old j).released refl)

          grows : (x : ℕ) → s.clock ≤ x → x ≤ deadline (old j)
              → open_time from es j x ≡ open_time from es j s.clock + (x - s.clock)
          grows x h l = time_chosen from j (old j).released (deadline (old j)) es x is h l

          by : (i : ℕ) → i < t.count → (old i).live ≡ true → Dec (i ≡ j)
              → ((old j).class ≤ (old i).class) × ((old j).class ≡ (old i).class → up_to (is_above t) i j ≡ true)
          by i h l (yes z) = rw z (le_refl (old j).class, λ y. up_itself (is_above t) j)
          by i h l (no z) = ahead j i c.below h (c.least i h l z)

      picks : Picks t.count (task_at t) (is_above t) bound space gate quota g m inv e.time onward (e.kind ≡ 1) later
      picks = go (chosen s) refl found
        where
          all : min s.count 16 ≡ t.count
          all = min-eq_left r.sound.counted.most ∙ r.count

          found : Found s.records t.count (chosen s)
          found = rw all (best_is s.records t.count)

          go : (b : Best) → chosen s ≡ b → Found s.records t.count b
              → Picks t.count (task_at t) (is_above t) bound space gate quota g m inv e.time onward (e.kind ≡ 1) later
          go b q (some {p} f) = serves (served p (ap (λ (x : Best). x.found) q) (ap (λ (x : Best). x.at) q) f)
          go b q (nothing f) = idle f

      less : (i : ℕ) → i < t.count → later i ≤ m.left i
      less i h =
          omega (arith, time_rises from i (old i).released (deadline (old i)) es s.clock e.time onward)

      -- a job that the event does not touch wants what it wanted at the event's time
      left_same : (i : ℕ) → next.clock ≡ e.time → Same (old i) (new i) → left_after from (e ∷ es) i ≤ later i
      left_same i c q =
          rw (
            time_before from i (new i).released (deadline (new i)) e es next.clock (le_refl _),
            c,
            q.task,
            q.released,
            q.last,
          )
          (le_refl (later i))

      same_as : (i : ℕ) → new i ≡ passed s e i → Same (old i) (new i)
      same_as i q = subst (λ (x : Record). Same (old i) x) (sym q) (expired_same (old i) e.time)

      -- the record of a task after an event that leaves the state q
      record_in : (q : State) → next ≡ q → (i : ℕ) → new i ≡ record_at q i
      record_in q st i = ap (λ (x : State). record_at x i) st

      abbrev Onto : Type 0
      Onto = Holds (moment_at from (e ∷ es) next.clock)

      at_time : next.clock ≡ e.time → Holds (moment_at from (e ∷ es) e.time) → Onto
      at_time clk x = subst (λ (c : ℕ). Holds (moment_at from (e ∷ es) c)) (sym clk) x

      -- one record may change, after step 1
      module _ (q : Record) (c : e.task < s.count) (st : next ≡ (accepted s e.time (set (expired_all s e.time) e.task q)).state) where
        clk : next.clock ≡ e.time
        clk = ap (λ (x : State). x.clock) st

        below : e.task < t.count
        below = rw r.count at c

        there : new e.task ≡ q
        there = record_in _ st e.task ∙ stored_here s e.time e.task q room c

        elsewhere : (i : ℕ) → i < t.count → (i ≡ e.task → ⊥) → new i ≡ passed s e i
        elsewhere i h z = record_in _ st i ∙ stored_else s e.time e.task q room i (inside i h) z

        lefts : (i : ℕ) → i < t.count → (i ≡ e.task → ⊥) → left_after from (e ∷ es) i ≤ later i
        lefts i h z = left_same i clk (same_as i (elsewhere i h z))

        steady_tick : e.time ≤ end → e.kind ≡ a_tick → q ≡ passed s e e.task → Onto
        unfolding jobs_of
        steady_tick short k z =
            at_time clk
            (on_tick t.count (task_at t) (is_above t) bound space gate quota g m inv e onward short later picks less (new) (left_after from (e ∷ es)) k
            (λ i h. same i h (ℕ_discrete i e.task)) (λ i h. left_same i clk (same_as i (same i h (ℕ_discrete i e.task)))))
          where
            same : (i : ℕ) → i < t.count → Dec (i ≡ e.task) → new i ≡ passed s e i
            same i h (yes y) = ap new y ∙ there ∙ z ∙ ap (passed s e) (sym y)
            same i h (no y) = elsewhere i h y

        steady_completion : e.time ≤ end → e.kind ≡ a_completion → (passed s e e.task).live ≡ true → q ≡ closed (passed s e e.task) true → Onto
        unfolding jobs_of
        steady_completion short k l z =
            at_time clk
            (on_completion t.count (task_at t) (is_above t) bound space gate quota g m inv e onward short later picks less (new)
            (left_after from (e ∷ es)) below elsewhere lefts k l (there ∙ z))

        steady_release : e.time ≤ end → e.kind ≡ a_release → too_soon (passed s e e.task) e.time ≡ false
            → q ≡ reopened (passed s e e.task) e.time → Onto
        unfolding jobs_of
        steady_release short k o z =
            at_time clk
            (on_release t.count (task_at t) (is_above t) bound space gate quota g m inv e onward short later picks less (new)
            (left_after from (e ∷ es)) below elsewhere lefts k o (there ∙ z)
            (omega (arith, ap (λ (x : Task). x.c) ((reached t good (e ∷ es)).tasks e.task below))))

    steady_next : Holds m → (is_accepted from es e ≡ true → Timely from es e) → Holds (moment_at from (e ∷ es) next.clock)
    steady_next inv timely = go (applied s e) refl (happened s e)
      where
        go : (a : Applied) → applied s e ≡ a → Happened s e a → Holds (moment_at from (e ∷ es) next.clock)
        go a q (refusal n z v) = steady_refused (next_state from es e ∙ ap (λ (x : Applied). x.state) q) inv
        go a q (acceptance x c (tick k)) =
            steady_tick inv x.onward (timely (ap (λ (y : Applied). accepts y.answer) q ∙ accepts_answer a.state))
            (passed s e e.task) c (next_state from es e ∙ ap (λ (y : Applied). y.state) q)
            x.limited k refl
        go a q (acceptance x c (release k o)) =
            steady_release inv x.onward (timely (ap (λ (y : Applied). accepts y.answer) q ∙ accepts_answer a.state))
            (reopened (passed s e e.task) e.time) c (next_state from es e ∙ ap (λ (y : Applied). y.state) q)
            x.limited k (in_turn (passed s e e.task) e o) refl
        go a q (acceptance x c (completion k o)) =
            steady_completion inv x.onward (timely (ap (λ (y : Applied). accepts y.answer) q ∙ accepts_answer a.state))
            (closed (passed s e e.task) true) c (next_state from es e ∙ ap (λ (y : Applied). y.state) q)
            x.limited k (is_open_lem (passed s e e.task) e.job (job_open (passed s e e.task) e o)).0 refl

  pub steady : (es : List Event) → Premise from es → Holds (moment_at from es (run_state from es).clock)
  unfolding Premise
  steady [] p = subst (λ (c : ℕ). Holds (moment_at from [] c)) (sym (fresh_clock t)) steady_fresh
  steady (e ∷ es) p = steady_next es e (steady es p.0) p.1
