-- At each task's level the counting argument holds of the task and those above it, whatever the order of the tasks, as long as it is transitive.
use Prim.Native.Nat.{ℕ, zero, suc, ◌+◌, ◌*◌, ◌≤◌, ◌<◌, max}
use mathlib.Core.Path.{◌≡◌, refl, ap}
use mathlib.Core.Bool.{Bool, true, false, cond}
use mathlib.Core.List.{List}
use native.Mathlib.Nat.{le-div_iff_mul-le}
use native.Mathlib.Decide.{ℕ_discrete}
use native.Mathlib.Omega.{arith}
use borrow.Author.Tests.{eq-eqb, ne_eqb}
use lib.Dec.{eqb}
use Rattle.laws.specs.Numbers.{ceiling}
use Rattle.laws.specs.Sums.{total}
use Rattle.laws.proofs.Numbers.{cond_mono}
use Rattle.laws.proofs.Sums.{total_shift}
use Rattle.laws.proofs.Tests.{cond_yes}
use Rattle.table_rules.specs.declared.Task.{Task}
use Rattle.task_records.specs.declared.Record.{Record}
use Rattle.run_histories.specs.History.{Job}
use Rattle.guarantee.proofs.Busy.{View, Busy, share}
use Rattle.guarantee.proofs.Required.{is_due, Fine, Gates}

-- above is transitive
abbrev pub Through : (ℕ → ℕ → Bool) → Type 0
Through above = (i j k : ℕ) → above i j ≡ true → above j k ≡ true → above i k ≡ true

-- at or above
abbrev pub up_to : (ℕ → ℕ → Bool) → ℕ → ℕ → Bool
up_to above k i = cond (eqb i k) true (above i k)

module _ (above : ℕ → ℕ → Bool) where
  pub up_itself : (i : ℕ) → up_to above i i ≡ true
  up_itself i = rw (eq-eqb i i refl)

  pub up_above : (i k : ℕ) → above i k ≡ true → up_to above k i ≡ true
  up_above i k a = go (eqb i k)
    where
      go : (b : Bool) → cond b true (above i k) ≡ true
      go true = refl
      go false = a

  pub above_other : (i k : ℕ) → (i ≡ k → ⊥) → up_to above k i ≡ true → above i k ≡ true
  above_other i k o u = rw (ne_eqb i k o) at u

  pub up_through : Through above → (i j k : ℕ) → up_to above j i ≡ true → up_to above k j ≡ true → up_to above k i ≡ true
  up_through t i j k a b = go (ℕ_discrete i j) (ℕ_discrete j k)
    where
      go : Dec (i ≡ j) → Dec (j ≡ k) → up_to above k i ≡ true
      go (yes e) d = rw e b
      go (no n) (yes e) = rw e at a
      go (no n) (no m) = up_above i k (t i j k (above_other i j n a) (above_other j k m b))

-- a moment of a run: each task's record, what its open job still wants, and its closed jobs
pub record Moment : Type 0 where
  pub clock : ℕ
  pub rec : ℕ → Record
  pub left : ℕ → ℕ
  pub jobs : ℕ → List Job

-- what a job costs
abbrev pub costs : (ℕ → Task) → ℕ → ℕ
costs p i = (p i).c

-- before the gate no job of the required class is released
abbrev pub view_of : (ℕ → Record → ℕ) → Moment → View
view_of gate m =
    record {
      clock = m.clock;
      pend = 0;
      due = λ i. is_due (m.rec i);
      rel = λ i. (m.rec i).last;
      left = m.left;
      gate = λ i. max (gate i (m.rec i)) m.clock;
    }

-- n tasks in an order; each task's bound, the spacing of its required jobs and its gate; how many of each task a level allows for
module _ (n : ℕ) (p : ℕ → Task) (above : ℕ → ℕ → Bool) (bound space : ℕ → ℕ) (gate : ℕ → Record → ℕ) (quota : ℕ → ℕ → ℕ) where
  abbrev pub Level : ℕ → View → Type 0
  Level k = Busy n 0 (bound k) (up_to above k) (costs p) space (quota k)

  -- what every accepted event keeps
  pub record Steady (m : Moment) : Type 0 where
    pub fine : (i : ℕ) → i < n → Fine (p i) (bound i) m.clock (m.jobs i) (m.rec i)
    pub busy : (k : ℕ) → k < n → Level k (view_of gate m)

  -- what the table's analysis gives
  pub record Given : Type 0 where
    pub through : Through above
    pub gates : (i : ℕ) → i < n → Gates (p i) (bound i) (space i) (gate i)
    pub some : (k : ℕ) → k < n → 0 < bound k
    pub within : (k : ℕ) → k < n → bound k ≤ (p k).d
    pub spaced : (k : ℕ) → k < n → (p k).d ≤ (p k).t
    pub fits : (k : ℕ) → k < n → total (share n 0 (bound k) (up_to above k) (costs p) space (quota k) (quota k)) n ≤ bound k
    pub allows : (k i : ℕ) → k < n → i < n → (x : ℕ) → x * space i < bound k → suc x ≤ quota k i

-- one job of the task itself, and of a task above one for each spacing begun
abbrev pub allowance : (ℕ → ℕ) → (ℕ → ℕ) → ℕ → ℕ → ℕ
allowance bound space k i = cond (eqb i k) 1 (ceiling (bound k) (space i))

at_most_one : (x s r : ℕ) → x * s < r → r ≤ s → suc x ≤ 1
at_most_one zero s r lt le = omega arith
at_most_one (suc x) s r lt le = omega arith

module _ (n : ℕ) (p : ℕ → Task) (above : ℕ → ℕ → Bool) (bound space : ℕ → ℕ) (k : ℕ) (pk : k < n) where
  own : allowance bound space k k ≡ 1
  own = rw (eq-eqb k k refl)

  others : (i : ℕ) → (i ≡ k → ⊥) → allowance bound space k i ≡ ceiling (bound k) (space i)
  others i o = rw (ne_eqb i k o)

  pub allow : 0 < bound k → bound k ≤ space k → ((i : ℕ) → i < n → 0 < space i) → (i : ℕ) → i < n → (x : ℕ) → x * space i < bound k
      → suc x ≤ allowance bound space k i
  allow some le wide i h x lt = go (ℕ_discrete i k)
    where
      go : Dec (i ≡ k) → suc x ≤ allowance bound space k i
      go (yes e) = rw e (rw own (at_most_one x (space k) (bound k) (rw e at lt) le))
      go (no o) = rw (others i o) ((le-div_iff_mul-le {k = space i} {x = suc x} (wide i h)).1 (omega (arith, wide i h)))

  -- the demand of the tasks above, with the task's own job, covers what the level allows for
  pub fit : (p k).c + total (λ i. cond (above i k) (ceiling (bound k) (space i) * (p i).c) 0) n ≤ bound k
      → total (λ i. cond (up_to above k i) (allowance bound space k i * (p i).c) 0) n ≤ bound k
  fit le =
      omega (
        arith,
        le,
        total_shift (λ i. cond (up_to above k i) (allowance bound space k i * (p i).c) 0)
            (λ i. cond (above i k) (ceiling (bound k) (space i) * (p i).c) 0) n k pk
            (λ i h o.
            cond_mono (up_to above k i) (above i k) (allowance bound space k i * (p i).c) (ceiling (bound k) (space i) * (p i).c) (above_other above i k o)
            (λ u. rw (others i o) (omega arith))),
        cond_yes (up_to above k k) (allowance bound space k k * (p k).c) 0 (up_itself above k),
        ap (λ (x : ℕ). x * (p k).c) own,
      )
