-- Time passes up to an event: the chosen job of the required class gets the gap, so no such job is found past its bound, and each level's busy time goes on
-- or begins anew. The premise on the chosen job is all that is used of a run.
use Prim.Native.Nat.{ℕ, ◌+◌, ◌-◌, ◌≤◌, ◌<◌}
use mathlib.Core.Path.{◌≡◌, refl, sym, ap, subst, ◌∙◌}
use mathlib.Core.Bool.{Bool, true, false, cond}
use mathlib.Core.Logic.{◌⊎◌, inl, inr}
use native.Mathlib.Nat.{le_refl}
use native.Mathlib.Omega.{arith}
use Rattle.laws.proofs.Tests.{true_not_false, both_hold, both_true}
use Rattle.table_rules.specs.declared.Task.{Task}
use Rattle.task_records.specs.declared.Record.{Record}
use Rattle.task_steps.specs.Opening.{expired}
use Rattle.run_histories.proofs.Steps.{Expired, over, stays, expiry, expired_open, expired_in_time}
use Rattle.guarantee.proofs.Busy.{After, lead, rebase, advance}
use Rattle.guarantee.proofs.Required.{is_due, due_intro, due_live, due_class, above_required}
use Rattle.guarantee.proofs.Levels.{up_to, up_itself, up_through, Moment, costs, Level, view_of, Steady, Given}

module _ (n : ℕ) (p : ℕ → Task) (above : ℕ → ℕ → Bool) (bound space : ℕ → ℕ) (gate : ℕ → Record → ℕ) (quota : ℕ → ℕ → ℕ)
    (g : Given n p above bound space gate quota) (m : Moment) (inv : Steady n p above bound space gate quota m) where
  abbrev up : ℕ → ℕ → Bool
  up = up_to above

  -- an event at t; `Release` where it is a release; what each open job wants at t
  module _ (t : ℕ) (onward : m.clock ≤ t) (Release : Type 0) (later : ℕ → ℕ) where
    -- the job of task j is the choice, and has the gap; once it has had its time, no event comes later, and no release then
    pub record Served (j : ℕ) : Type 0 where
      pub below : j < n
      pub live : (m.rec j).live ≡ true
      pub first : (i : ℕ) → i < n → (m.rec i).live ≡ true → ((m.rec j).class ≤ (m.rec i).class) × ((m.rec j).class ≡ (m.rec i).class → up i j ≡ true)
      pub waits : (x : ℕ) → m.clock + m.left j ≤ x → x ≤ (m.rec j).last + (p j).d → (t ≤ x) × (Release → t < x)
      pub gap : t ≤ (m.rec j).last + (p j).d → later j ≡ m.left j - (t - m.clock)

    -- the choice, or nothing is open
    pub data Picks : Type 0 where
      serves : {j : ℕ} → Served j → Picks
      idle : ((i : ℕ) → i < n → (m.rec i).live ≡ false) → Picks

    -- the moment of the event, after step 1
    abbrev pub passing : Moment
    passing = record { clock = t; rec = λ i. expired (m.rec i) t; left = later; jobs = m.jobs }

    module _ (picks : Picks) (less : (i : ℕ) → i < n → later i ≤ m.left i) where
      -- a job of the required class, at or above k, has the gap; or none is open
      abbrev Running : ℕ → Type 0
      Running k = (j : ℕ) × Served j × (is_due (m.rec j) ≡ true) × (up k j ≡ true)

      abbrev Quiet : ℕ → Type 0
      Quiet k = (i : ℕ) → i < n → up k i ≡ true → is_due (m.rec i) ≡ true → ⊥

      which : (k : ℕ) → Running k ⊎ Quiet k
      which k = go picks
        where
          go : Picks → Running k ⊎ Quiet k
          go (idle h) = inr (λ i q u d. true_not_false (sym (due_live (m.rec i) d) ∙ h i q))
          go (serves {j} s) = side (cond (is_due (m.rec j)) (up k j) false) refl
            where
              side : (b : Bool) → cond (is_due (m.rec j)) (up k j) false ≡ b → Running k ⊎ Quiet k
              side true e = let q = both_hold (is_due (m.rec j)) (up k j) e in inl (j, s, q.0, q.1)
              side false e =
                  inr (λ i q u d.
                  let a = s.first i q (due_live (m.rec i) d) in
                  let z = due_class (m.rec i) d in
                  let due = due_intro (m.rec j) s.live (omega (arith, a.0)) in
                  let at = up_through above g.through j i k (a.1 (omega (arith, a.0))) u in
                  true_not_false (sym (both_true (is_due (m.rec j)) (up k j) due at) ∙ e))

      -- no event comes after the chosen job has had its time
      limit : (j : ℕ) → Served j → is_due (m.rec j) ≡ true → (t ≤ m.clock + m.left j) × (Release → t < m.clock + m.left j)
      limit j s d =
          let h = s.below in
          let b = inv.busy j h in
          let l = lead n 0 (bound j) (up j) (costs p) space (quota j) (g.fits j h) (view_of gate m) b j h (up_itself above j) d in
          s.waits (m.clock + m.left j) (le_refl (m.clock + m.left j)) (omega (arith, l, b.start j h (up_itself above j) d, g.within j h))

      -- a job of the required class is not past its bound, and at a release not at it
      pub safe : (i : ℕ) → i < n → is_due (m.rec i) ≡ true → (t ≤ (m.rec i).last + bound i) × (Release → t < (m.rec i).last + bound i)
      safe i h d = go (which i)
        where
          go : Running i ⊎ Quiet i → (t ≤ (m.rec i).last + bound i) × (Release → t < (m.rec i).last + bound i)
          go (inl r) =
              let b = inv.busy i h in
              let l = lead n 0 (bound i) (up i) (costs p) space (quota i) (g.fits i h) (view_of gate m) b r.0 r.1.below r.3 r.2 in
              let q = b.start i h (up_itself above i) d in
              let x = limit r.0 r.1 r.2 in
              (omega (arith, x.0), λ z. omega (arith, x.1 z))
          go (inr q) = absurd (q i h (up_itself above i) d)

      pub in_time : (i : ℕ) → i < n → is_due (m.rec i) ≡ true → t ≤ (m.rec i).last + (p i).d
      in_time i h d = omega (arith, (safe i h d).0, g.within i h)

      -- what step 1 closes is above the required class
      pub over_class : (i : ℕ) → i < n → (m.rec i).live ≡ true → (m.rec i).last + (m.rec i).task.d < t → 0 < (m.rec i).class
      over_class i h l q =
          let e = ap (λ (x : Task). x.d) (inv.fine i h).task in
          above_required (m.rec i) l (λ d. omega (arith, in_time i h d))

      gate_on : (i : ℕ) → i < n → gate i (m.rec i) ≤ gate i (expired (m.rec i) t)
      gate_on i h = go (expiry (m.rec i) t)
        where
          go : {q : Record} → Expired (m.rec i) t q → gate i (m.rec i) ≤ gate i q
          go (over l q) = (g.gates i h).missed (m.rec i) (inv.fine i h) l (over_class i h l q)
          go (stays l) = le_refl (gate i (m.rec i))

      pub was : (i : ℕ) → is_due (expired (m.rec i) t) ≡ true → expired (m.rec i) t ≡ m.rec i
      was i d = expired_open (m.rec i) t (due_live (expired (m.rec i) t) d)

      pub was_due : (i : ℕ) → is_due (expired (m.rec i) t) ≡ true → is_due (m.rec i) ≡ true
      was_due i d = subst (λ (r : Record). is_due r ≡ true) (was i d) d

      after_gap : (k : ℕ) → After n 0 (bound k) (up k) (costs p) space (quota k) (view_of gate m) (view_of gate passing)
      after_gap k =
          record {
            due = λ i h u d. (was_due i d, ap (λ (r : Record). r.last) (was i d));
            gate = λ i h u. omega (arith, gate_on i h);
          }

      still : (j : ℕ) → j < n → is_due (m.rec j) ≡ true → is_due (expired (m.rec j) t) ≡ true
      still j h d =
          let e = ap (λ (x : Task). x.d) (inv.fine j h).task in
          rw (expired_in_time (m.rec j) t (omega (arith, in_time j h d))) d

      -- each level after step 1: a release finds it before its bound
      abbrev pub LevelOn : ℕ → Type 0
      LevelOn k = (b : Level n p above bound space gate quota k (view_of gate passing)) × (Release → t < b.t0 + bound k)

      pub level_on : (k : ℕ) → k < n → LevelOn k
      unfolding rebase advance
      level_on k h = go (which k)
        where
          go : Running k ⊎ Quiet k → LevelOn k
          go (inl (j, s, d, u)) =
              let b = inv.busy k h in
              let l = lead n 0 (bound k) (up k) (costs p) space (quota k) (g.fits k h) (view_of gate m) b j s.below u d in
              let x = limit j s d in
              let q = s.gap (in_time j s.below d) in (
                advance n 0 (bound k) (up k) (costs p) space (quota k) (view_of gate m) (view_of gate passing) b (after_gap k) (t - m.clock) j s.below u d
                    (still j s.below d) (omega arith) (omega (arith, x.0)) (omega arith) (λ i r o v w. less i r),
                λ z. omega (arith, x.1 z),
              )
          go (inr q) = (
            rebase n 0 (bound k) (up k) (costs p) space (quota k) (view_of gate passing) (λ i r u d. q i r u (was_due i d)),
            λ z. omega (arith, g.some k h),
          )
