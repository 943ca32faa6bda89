-- An accepted event keeps the busy time of every level and what holds of every task: a tick and a completion bring no job, and a release brings one that
-- finds each level before its bound.
use Prim.Native.Nat.{ℕ, ◌+◌, ◌≤◌, ◌<◌}
use mathlib.Core.Path.{◌≡◌, refl, sym, ap, subst, ◌∙◌}
use mathlib.Core.Bool.{Bool, true, false}
use mathlib.Core.List.{List}
use native.Mathlib.Nat.{le_refl}
use native.Mathlib.Decide.{ℕ_discrete}
use native.Mathlib.Omega.{arith}
use Rattle.laws.proofs.Tests.{true_not_false, test_false}
use Rattle.task_levels.specs.Level.{class_of}
use Rattle.event_reading.specs.declared.Event.{Event}
use Rattle.table_rules.specs.declared.Task.{Task}
use Rattle.task_records.specs.declared.Record.{Record}
use Rattle.task_records.specs.Closing.{closed}
use Rattle.task_records.proofs.Steps.{closed_idle}
use Rattle.task_steps.specs.Opening.{expired, opened}
use Rattle.task_soundness.proofs.Kept.{end}
use Rattle.task_steps.specs.Own.{too_soon, reopened}
use Rattle.apply_events.proofs.Kept.{spaced_by}
use Rattle.run_histories.specs.History.{Job, closed_job}
use Rattle.run_histories.proofs.Steps.{cleared, cleared_open, cleared_none, cleared_same, cleared_idle, Expired, over, stays, expiry, expired_same}
use Rattle.run_histories.proofs.Steps.{expired_open}
use Rattle.run_histories.proofs.Closes.{jobs_with, closes_none, closes_stays, closes_idle, closes_next, other_kind, other_task, own_task}
use Rattle.guarantee.proofs.Busy.{keep, add}
use Rattle.guarantee.proofs.Required.{is_due, due_intro, due_live, due_class, above_required, Fine, begun, fine_later, fine_missed, fine_met, fine_opened}
use Rattle.guarantee.proofs.Levels.{up_to, Moment, costs, Level, view_of, Steady, Given}
use Rattle.guarantee.proofs.Passing.{Picks, passing, safe, over_class, was_due, level_on}

module _ (n : ℕ) (p : ℕ → Task) (above : ℕ → ℕ → Bool) (bound space : ℕ → ℕ) (gate : ℕ → Record → ℕ) (quota : ℕ → ℕ → ℕ)
    (g : Given n p above bound space gate quota) (m : Moment) (inv : Steady n p above bound space gate quota m)
    (e : Event) (onward : m.clock ≤ e.time) (short : e.time ≤ end) (later : ℕ → ℕ)
    (picks : Picks n p above bound space gate quota g m inv e.time onward (e.kind ≡ 1) later) (less : (i : ℕ) → i < n → later i ≤ m.left i) where
  abbrev up : ℕ → ℕ → Bool
  up = up_to above

  abbrev t : ℕ
  t = e.time

  abbrev passed : ℕ → Record
  passed i = expired (m.rec i) t

  -- the moment after the event
  module _ (rec : ℕ → Record) (left : ℕ → ℕ) where
    abbrev pub after : Moment
    after = record { clock = t; rec = rec; left = left; jobs = λ i. jobs_with (m.rec i) (rec i) e i (m.jobs i) }

    -- what holds of a task whose job is closed by step 1, or stays
    passed_fine : (i : ℕ) → i < n → (closed_job (m.rec i) e i).met ≡ false
        → Fine (p i) (bound i) t (jobs_with (m.rec i) (passed i) e i (m.jobs i)) (passed i)
    passed_fine i h c = go (expiry (m.rec i) t)
      where
        f : Fine (p i) (bound i) m.clock (m.jobs i) (m.rec i)
        f = inv.fine i h

        go : {q : Record} → Expired (m.rec i) t q → Fine (p i) (bound i) t (jobs_with (m.rec i) q e i (m.jobs i)) q
        go (over l q) =
            rw (closes_idle (m.rec i) (closed (m.rec i) false) l (closed_idle (m.rec i) false))
            (fine_missed (p i) (bound i) m.clock (m.jobs i) (m.rec i) f l (omega arith) t onward (closed_job (m.rec i) e i) refl c
            (over_class n p above bound space gate quota g m inv t onward (e.kind ≡ 1) later picks less i h l q))
        go (stays d) = rw (closes_stays (m.rec i)) (fine_later (p i) (bound i) m.clock (m.jobs i) (m.rec i) f t onward d)

    -- no job of the required class, at or above k, is new
    calm : (k : ℕ) → k < n → ((i : ℕ) → i < n → up k i ≡ true → is_due (rec i) ≡ true → (rec i ≡ passed i) × (left i ≤ later i))
        → ((i : ℕ) → i < n → gate i (passed i) ≤ gate i (rec i)) → Level n p above bound space gate quota k (view_of gate after)
    calm k h same on =
        keep n 0 (bound k) (up k) (costs p) space (quota k)
        (view_of gate (passing n p above bound space gate quota g m inv t onward (e.kind ≡ 1) later)) (view_of gate after)
        (level_on n p above bound space gate quota g m inv t onward (e.kind ≡ 1) later picks less k h).0
        (record {
          due = λ i q u d. (subst (λ (r : Record). is_due r ≡ true) (same i q u d).0 d, ap (λ (r : Record). r.last) (same i q u d).0);
          gate = λ i q u. omega (arith, on i q);
        })
        refl (omega arith) (λ i q u d. (same i q u d).1)

    -- ---- a tick

    pub on_tick : (e.kind ≡ 0) → ((i : ℕ) → i < n → rec i ≡ passed i) → ((i : ℕ) → i < n → left i ≤ later i)
        → Steady n p above bound space gate quota after
    on_tick k same lefts =
        record {
          fine = λ i h. rw (same i h) (passed_fine i h (other_kind 2 e i (λ z. omega arith)));
          busy = λ k h. calm k h (λ i q u d. (same i q, lefts i q)) (λ i q. rw (same i q) (le_refl (gate i (passed i))));
        }

    -- ---- one task's record changes, after step 1

    module _ (c : e.task < n) (elsewhere : (i : ℕ) → i < n → (i ≡ e.task → ⊥) → rec i ≡ passed i)
        (lefts : (i : ℕ) → i < n → (i ≡ e.task → ⊥) → left i ≤ later i) where
      abbrev a : ℕ
      a = e.task

      fine_by : Fine (p a) (bound a) t (jobs_with (m.rec a) (rec a) e a (m.jobs a)) (rec a)
          → (i : ℕ) → i < n → Fine (p i) (bound i) t (jobs_with (m.rec i) (rec i) e i (m.jobs i)) (rec i)
      fine_by there i h = go (ℕ_discrete i a)
        where
          go : Dec (i ≡ a) → Fine (p i) (bound i) t (jobs_with (m.rec i) (rec i) e i (m.jobs i)) (rec i)
          go (yes z) = rw z there
          go (no z) = rw (elsewhere i h z) (passed_fine i h (other_task 2 e i z))

      gate_by : gate a (passed a) ≤ gate a (rec a) → (i : ℕ) → i < n → gate i (passed i) ≤ gate i (rec i)
      gate_by there i h = go (ℕ_discrete i a)
        where
          go : Dec (i ≡ a) → gate i (passed i) ≤ gate i (rec i)
          go (yes z) = rw z there
          go (no z) = rw (elsewhere i h z) (le_refl (gate i (passed i)))

      -- the event brings no job of the required class at or above k
      same_by : (k : ℕ) → (up k a ≡ true → is_due (rec a) ≡ true → ⊥) → (i : ℕ) → i < n → up k i ≡ true → is_due (rec i) ≡ true
          → (rec i ≡ passed i) × (left i ≤ later i)
      same_by k none i h u d = go (ℕ_discrete i a)
        where
          go : Dec (i ≡ a) → (rec i ≡ passed i) × (left i ≤ later i)
          go (yes z) = absurd (none (rw z at u) (rw z at d))
          go (no z) = (elsewhere i h z, lefts i h z)

      -- ---- a completion

      pub on_completion : e.kind ≡ 2 → (passed a).live ≡ true → rec a ≡ closed (passed a) true → Steady n p above bound space gate quota after
      on_completion k l there =
          let r = m.rec a in
          let same : passed a ≡ r = expired_open r t l in
          let live : r.live ≡ true = subst (λ (q : Record). q.live ≡ true) same l in
          let is : rec a ≡ closed r true = there ∙ ap (λ (q : Record). closed q true) same in
          let idle : (rec a).live ≡ false = ap (λ (q : Record). q.live) is ∙ closed_idle r true in
          record {
            fine =
                fine_by
                (rw (is, closes_idle r (closed r true) live (closed_idle r true))
                (fine_met (p a) (bound a) m.clock (m.jobs a) r (inv.fine a c) live (omega arith) t onward (closed_job r e a) refl (own_task 2 e a k refl)
                (λ z. (safe n p above bound space gate quota g m inv t onward (e.kind ≡ 1) later picks less a c (due_intro r live z)).0)));
            busy =
                λ k h.
                calm k h (same_by k (λ u d. true_not_false (sym (due_live (rec a) d) ∙ idle)))
                (gate_by (rw (is, same) ((g.gates a c).met r (inv.fine a c) live)));
          }

      -- ---- a release

      module _ (k : e.kind ≡ 1) (soon : too_soon (passed a) t ≡ false) (there : rec a ≡ reopened (passed a) t) (fresh : left a ≤ (p a).c) where
        -- no job of the required class is still open at its task's next release
        none_due : is_due (m.rec a) ≡ true → ⊥
        none_due d =
            let q = expired_same (m.rec a) t in
            let f = inv.fine a c in
            let s =
            spaced_by (passed a) t soon (λ z. begun (p a) (bound a) m.clock (m.jobs a) (m.rec a) f (due_live (m.rec a) d) (sym q.released ∙ z)) in
            let w = ap (λ (x : Task). x.t) (q.task ∙ f.task) in
            omega (
              arith,
              (safe n p above bound space gate quota g m inv t onward (e.kind ≡ 1) later picks less a c d).1 k,
              g.within a c,
              g.spaced a c,
              q.last,
            )

        none_passed : is_due (passed a) ≡ false
        none_passed =
            test_false (is_due (passed a)) (was_due n p above bound space gate quota g m inv t onward (e.kind ≡ 1) later picks less a) none_due

        -- the task as its new job finds it, and its closed jobs
        abbrev found : Record
        found = cleared (passed a)

        abbrev jobs : List Job
        jobs = jobs_with (m.rec a) (rec a) e a (m.jobs a)

        record Ready (q : Record) : Type 0 where
          fine : Fine (p a) (bound a) t jobs (cleared q)
          on : gate a q ≤ gate a (cleared q)

        later_number : (m.rec a).live ≡ true → (rec a).released ≡ (m.rec a).released → ⊥
        unfolding opened
        later_number l z =
            let q = cleared_same (passed a) in
            let x = expired_same (m.rec a) t in
            let s = (inv.fine a c).sound in
            let y = ap (λ (r : Record). r.released) there in
            omega (arith, q.released, x.released, s.spaced, s.past)

        ready : Ready (passed a)
        ready = go (expiry (m.rec a) t)
          where
            f : Fine (p a) (bound a) m.clock (m.jobs a) (m.rec a)
            f = inv.fine a c

            gone : 0 < (m.rec a).class → (m.rec a).live ≡ true → Fine (p a) (bound a) t jobs (closed (m.rec a) false)
            gone over-it l =
                rw (closes_next (m.rec a) (rec a) l (later_number l))
                (fine_missed (p a) (bound a) m.clock (m.jobs a) (m.rec a) f l (omega arith) t onward (closed_job (m.rec a) e a) refl
                (other_kind 2 e a (λ z. omega arith)) over-it)

            stayed : (b : Bool) → (m.rec a).live ≡ b → ((m.rec a).live ≡ true → t ≤ (m.rec a).last + (m.rec a).task.d) → Ready (m.rec a)
            stayed true l d =
                let over-it = above_required (m.rec a) l none_due in
                let is = cleared_open (m.rec a) l in
                record { fine = rw is (gone over-it l); on = rw is ((g.gates a c).missed (m.rec a) f l over-it) }
            stayed false l d =
                let is = cleared_none (m.rec a) l in
                record {
                  fine = rw (is, closes_none (m.rec a) (rec a) l) (fine_later (p a) (bound a) m.clock (m.jobs a) (m.rec a) f t onward d);
                  on = rw is (le_refl (gate a (m.rec a)));
                }

            go : {q : Record} → Expired (m.rec a) t q → Ready q
            go (over l h) =
                let over-it = over_class n p above bound space gate quota g m inv t onward (e.kind ≡ 1) later picks less a c l h in
                let is = cleared_none (closed (m.rec a) false) (closed_idle (m.rec a) false) in
                record { fine = rw is (gone over-it l); on = rw is (le_refl (gate a (closed (m.rec a) false))) }
            go (stays d) = stayed (m.rec a).live refl d

        apart : (found.released ≡ 0 → ⊥) → found.last + found.task.t ≤ t
        apart = let q = cleared_same (passed a) in rw (q.released, q.last, q.task) (spaced_by (passed a) t soon)

        apart_by : (found.released ≡ 0 → ⊥) → found.last + (p a).t ≤ t
        apart_by = rw (← ready.fine.task) apart

        opened_fine : Fine (p a) (bound a) t jobs (rec a)
        opened_fine =
            subst (λ (r : Record). Fine (p a) (bound a) t jobs r) (sym there)
            (fine_opened (p a) (bound a) t jobs found ready.fine short (cleared_idle (passed a)) apart)

        opened_due : is_due (rec a) ≡ true → class_of found.level ≡ 0
        unfolding opened
        opened_due d = due_class (opened found t) (rw there at d)

        opened_last : (rec a).last ≡ t
        unfolding opened
        opened_last = ap (λ (r : Record). r.last) there

        opened_gate : gate a (passed a) ≤ gate a (rec a)
        opened_gate = rw there (go (ℕ_discrete (class_of found.level) 0))
          where
            go : Dec (class_of found.level ≡ 0) → gate a (passed a) ≤ gate a (opened found t)
            go (yes z) = let q = (g.gates a c).due found t ready.fine (cleared_idle (passed a)) z apart_by in omega (arith, ready.on, q.0, q.1)
            go (no z) = omega (arith, ready.on, (g.gates a c).wait found t ready.fine (cleared_idle (passed a)) (omega arith) apart_by)

        -- the new job is of the required class, and at or above k
        level_more : (k : ℕ) → k < n → up k a ≡ true → class_of found.level ≡ 0 → Level n p above bound space gate quota k (view_of gate after)
        level_more j h u z =
            let b = level_on n p above bound space gate quota g m inv t onward (e.kind ≡ 1) later picks less j h in
            let q = (g.gates a c).due found t ready.fine (cleared_idle (passed a)) z apart_by in
            let on : t + space a ≤ gate a (rec a) = rw there q.1 in
            add n 0 (bound j) (up j) (costs p) space (quota j)
            (view_of gate (passing n p above bound space gate quota g m inv t onward (e.kind ≡ 1) later)) (view_of gate after) b.0 a c u none_passed
            (λ i hi o ui d.
            let s = elsewhere i hi o in
            (subst (λ (r : Record). is_due r ≡ true) s d, ap (λ (r : Record). r.last) s, lefts i hi o))
            (λ i hi ui. omega (arith, gate_by opened_gate i hi))
            refl (omega arith) opened_last (omega arith) (omega (arith, ready.on, q.0)) (omega arith) (b.1 k) (g.allows j a h c)

        pub on_release : Steady n p above bound space gate quota after
        on_release =
            record {
              fine = fine_by opened_fine;
              busy = λ j h. go j h (up j a) refl (ℕ_discrete (class_of found.level) 0);
            }
          where
            go : (j : ℕ) → j < n → (b : Bool) → up j a ≡ b → Dec (class_of found.level ≡ 0) → Level n p above bound space gate quota j (view_of gate after)
            go j h true u (yes z) = level_more j h u z
            go j h true u (no z) = calm j h (same_by j (λ v d. z (opened_due d))) (gate_by opened_gate)
            go j h false u z = calm j h (same_by j (λ v d. true_not_false (sym v ∙ u))) (gate_by opened_gate)
