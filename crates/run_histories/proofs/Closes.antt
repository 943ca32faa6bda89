-- Which job an event closes, by comparing a record before and after: none if the record stays, and the open one if it is no longer open.
use Prim.Native.Nat.{ℕ}
use mathlib.Core.Path.{◌≡◌, refl, sym}
use mathlib.Core.Bool.{Bool, true, false, cond}
use mathlib.Core.List.{List, ◌∷◌}
use borrow.Author.Tests.{eq-eqb, ne_eqb}
use lib.Dec.{eqb}
use Rattle.laws.proofs.Tests.{cond_same}
use Rattle.event_reading.specs.declared.Event.{Event}
use Rattle.task_records.specs.declared.Record.{Record}
use Rattle.run_histories.specs.History.{Job, closes, closed_job}

-- the closed jobs of task i after an event
abbrev pub jobs_with : Record → Record → Event → ℕ → List Job → List Job
jobs_with r q e i jobs = cond (closes r q) (closed_job r e i ∷ jobs) jobs

-- nothing was open, or it still is
pub closes_none : (r q : Record) → r.live ≡ false → closes r q ≡ false
closes_none r q l = rw l

pub closes_stays : (r : Record) → closes r r ≡ false
closes_stays r = go r.live
  where
    go : (b : Bool) → cond b (cond b (cond (eqb r.released r.released) false true) true) false ≡ false
    go true = rw (eq-eqb r.released r.released refl)
    go false = refl

-- it is no longer open, or another job is
pub closes_idle : (r q : Record) → r.live ≡ true → q.live ≡ false → closes r q ≡ true
closes_idle r q l o = rw (l, o)

pub closes_next : (r q : Record) → r.live ≡ true → (q.released ≡ r.released → ⊥) → closes r q ≡ true
closes_next r q l n = rw (l, ne_eqb q.released r.released n) (cond_same q.live true)

-- an event of another kind, or of another task, completes no job of task i, and releases none
module _ (kind : ℕ) (e : Event) (i : ℕ) where
  abbrev is_of : Bool
  is_of = cond (eqb e.kind kind) (eqb e.task i) false

  pub other_kind : (e.kind ≡ kind → ⊥) → is_of ≡ false
  other_kind n = rw (ne_eqb e.kind kind n)

  pub other_task : (i ≡ e.task → ⊥) → is_of ≡ false
  other_task n = rw (ne_eqb e.task i (λ z. n (sym z))) (cond_same (eqb e.kind kind) false)

  pub own_task : e.kind ≡ kind → i ≡ e.task → is_of ≡ true
  own_task k z = rw (eq-eqb e.kind kind k, eq-eqb e.task i (sym z))
