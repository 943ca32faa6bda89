-- What a step leaves of one task's record: task, releases and last release stay through closing and step 1, and a job in time stays open.
use Prim.Native.Nat.{ℕ, ◌+◌, ◌≤◌, ◌<◌}
use mathlib.Core.Path.{◌≡◌, refl, sym, ◌∙◌}
use mathlib.Core.Bool.{Bool, true, false, cond}
use native.Mathlib.Omega.{arith}
use borrow.Author.Tests.{ltb-true, ltb-false, eqb-true}
use lib.Dec.{eqb, ltb}
use Rattle.laws.proofs.Tests.{true_not_false, both_hold}
use Rattle.task_records.specs.declared.Record.{Record}
use Rattle.task_records.specs.Closing.{closed}
use Rattle.task_records.proofs.Steps.{closed_idle}
use Rattle.task_steps.specs.Opening.{expired}
use Rattle.task_steps.specs.Own.{is_open}

-- what a step does not touch
pub record Same (r q : Record) : Type 0 where
  pub task : q.task ≡ r.task
  pub released : q.released ≡ r.released
  pub last : q.last ≡ r.last

same : (r : Record) → Same r r
same r = record { task = refl; released = refl; last = refl }

pub closed_same : (r : Record) (met : Bool) → Same r (closed r met)
unfolding closed
closed_same r true = record { task = refl; released = refl; last = refl }
closed_same r false = record { task = refl; released = refl; last = refl }

-- step 2 closes what is still open
abbrev pub cleared : Record → Record
cleared r = cond r.live (closed r false) r

pub cleared_open : (r : Record) → r.live ≡ true → cleared r ≡ closed r false
cleared_open r l = rw l

pub cleared_none : (r : Record) → r.live ≡ false → cleared r ≡ r
cleared_none r l = rw l

pub cleared_same : (r : Record) → Same r (cleared r)
cleared_same r = go r.live
  where
    go : (b : Bool) → Same r (cond b (closed r false) r)
    go true = closed_same r false
    go false = same r

pub cleared_idle : (r : Record) → (cleared r).live ≡ false
cleared_idle r = go r.live refl
  where
    go : (b : Bool) → r.live ≡ b → (cond b (closed r false) r).live ≡ false
    go true e = closed_idle r false
    go false e = e

module _ (r : Record) (t : ℕ) where
  -- closed as missed, past its deadline, or as it was
  pub data Expired : Record → Type 0 where
    over : r.live ≡ true → r.last + r.task.d < t → Expired (closed r false)
    stays : (r.live ≡ true → t ≤ r.last + r.task.d) → Expired r

  pub expiry : Expired (expired r t)
  unfolding expired
  expiry = go r.live (ltb (r.last + r.task.d) t) refl refl
    where
      go : (a b : Bool) → r.live ≡ a → ltb (r.last + r.task.d) t ≡ b → Expired (cond (cond a b false) (closed r false) r)
      go true true o q = over o (ltb-true _ _ q)
      go true false o q = stays (λ z. ltb-false _ _ q)
      go false b o q = stays (λ z. absurd (true_not_false (sym z ∙ o)))

  pub expired_same : Same r (expired r t)
  expired_same = go expiry
    where
      go : {q : Record} → Expired q → Same r q
      go (over o h) = closed_same r false
      go (stays h) = same r

  -- what step 1 leaves open is as it was
  pub expired_open : (expired r t).live ≡ true → expired r t ≡ r
  expired_open = go expiry
    where
      go : {q : Record} → Expired q → q.live ≡ true → q ≡ r
      go (over o h) e = absurd (true_not_false (sym e ∙ closed_idle r false))
      go (stays h) e = refl

  -- a job whose deadline has not passed stays
  pub expired_in_time : t ≤ r.last + r.task.d → expired r t ≡ r
  expired_in_time h = go expiry
    where
      go : {q : Record} → Expired q → q ≡ r
      go (over o l) = absurd (omega arith)
      go (stays l) = refl

pub is_open_lem : (r : Record) (job : ℕ) → is_open r job ≡ true → (r.live ≡ true) × (r.released ≡ job)
is_open_lem r job e = let p = both_hold r.live (eqb r.released job) e in (p.0, eqb-true _ _ p.1)
