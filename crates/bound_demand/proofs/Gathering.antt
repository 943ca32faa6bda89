-- A task's load asks for as much as the table, and a turn of the loop is a clause of its definition: by induction on the positions passed.
use Prim.Native.Nat.{ℕ, zero, suc, ◌+◌, ◌≤◌, ◌<◌}
use mathlib.Core.Path.{◌≡◌, refl, ◌∙◌}
use mathlib.Core.Bool.{Bool, true, false, cond}
use mathlib.Core.List.{List}
use native.Mathlib.Nat.{le_refl, add-zero, not-suc-le-zero}
use native.Mathlib.Decide.{dec_lt, ℕ_discrete}
use native.Mathlib.Numerals.{add-one}
use native.Mathlib.Omega.{arith}
use borrow.Author.Tests.{le-ltb, lt-leb}
use lib.Dec.{ltb, leb}
use lib.ListN.{length, get_or, set, replicate, length-set, get_or-replicate, get_or-eq_default}
use lib.Seq.{get_or-set_same, get_or-set_other}
use Rattle.laws.specs.Numbers.{one_if}
use Rattle.laws.specs.Sums.{total}
use Rattle.laws.proofs.Numbers.{one_most}
use Rattle.laws.proofs.Sums.{total_same, total_small}
use Rattle.table_rules.specs.declared.Table.{Table}
use Rattle.table_rules.specs.Answers.{Accepted}
use Rattle.table_rules.specs.Judging.{judged}
use Rattle.bound_demand.specs.declared.Asked.{Asked}
use Rattle.bound_demand.specs.declared.Load.{Load}
use Rattle.bound_demand.specs.Above.{task_at, is_above}
use Rattle.bound_demand.specs.Demand.{cost_of, spacing_of, part_at, demand}
use Rattle.bound_demand.specs.Load.{asked_of, none_asked, load_with, empty_load, count_to, row_to, load_at, part_in, load_demand, Ready}
use Rattle.bound_demand.proofs.Obeyed.{few, cost_some, spacing_some}

-- a load of the task at k: ready, and asking for as much as the table does
pub record LoadOf (t : Table) (k : ℕ) (l : Load) : Type 0 where
  pub ready : Ready l
  pub own : l.own ≡ cost_of (task_at t k)
  pub parts : (r : ℕ) → total (part_in l.above r) l.count ≡ total (part_at t k r) t.count

-- what n tasks above the task at k, among the first i positions, ask for
record Gathered (t : Table) (k : ℕ) (row : List Asked) (n i : ℕ) : Type 0 where
  places : length row ≡ 16
  spaced : (j : ℕ) → j < n → 1 ≤ (get_or row j none_asked).spacing
  parts : (r : ℕ) → total (part_in row r) n ≡ total (part_at t k r) i

module _ (t : Table) (k : ℕ) where
  gathered_none : Gathered t k (replicate 16 none_asked) 0 0
  unfolding total
  gathered_none = record { places = refl; spaced = λ j h. absurd (not-suc-le-zero h); parts = λ r. refl }

  gathered_skip : (row : List Asked) (n i : ℕ) → Gathered t k row n i → is_above t i k ≡ false → Gathered t k row n (suc i)
  unfolding total
  gathered_skip row n i g e =
      record { places = g.places; spaced = g.spaced; parts = λ r. g.parts r ∙ rw e (omega arith) }

  gathered_more : (row : List Asked) (n i : ℕ) → n < 16 → Gathered t k row n i → is_above t i k ≡ true → 1 ≤ spacing_of (task_at t i)
      → Gathered t k (set row n (asked_of (task_at t i))) (suc n) (suc i)
  unfolding total
  gathered_more row n i h g e s =
      record {
        places = length-set row n x ∙ g.places;
        spaced = λ j q. at j q (ℕ_discrete j n);
        parts = λ r. rw (total_same (part_in (set row n x) r) (part_in row r) n (λ j q. rw (before j q)), here, e, g.parts r);
      }
    where
      x : Asked
      x = asked_of (task_at t i)

      here : get_or (set row n x) n none_asked ≡ x
      here = get_or-set_same row n x none_asked (rw g.places h)

      before : (j : ℕ) → j < n → get_or (set row n x) j none_asked ≡ get_or row j none_asked
      before j q = get_or-set_other row n j x none_asked (λ z. omega arith)

      at : (j : ℕ) → j < suc n → Dec (j ≡ n) → 1 ≤ (get_or (set row n x) j none_asked).spacing
      at j q (yes z) = rw (z, here) s
      at j q (no z) = rw (before j (omega arith)) (g.spaced j (omega arith))

  -- no more tasks stand above than there are
  pub count_few : (i : ℕ) → count_to t k i ≤ i
  count_few i = omega (arith, total_small (λ j. one_if (is_above t j k)) 1 i (λ j h. one_most (is_above t j k)))

  -- what the definition gathers, position by position
  row_gathered : judged t ≡ Accepted → (i : ℕ) → i ≤ t.count → Gathered t k (row_to t k i) (count_to t k i) i
  unfolding row_to total
  row_gathered good zero h = gathered_none
  row_gathered good (suc i) h = go (is_above t i k) refl (row_gathered good i (omega arith))
    where
      row : List Asked
      row = row_to t k i

      n : ℕ
      n = count_to t k i

      go : (b : Bool) → is_above t i k ≡ b → Gathered t k row n i
          → Gathered t k (cond b (set row n (asked_of (task_at t i))) row) (n + one_if b) (suc i)
      go true e g = rw (add-one n) (gathered_more row n i (omega (arith, count_few i, few t good)) g e (spacing_some t good i h))
      go false e g = rw (add-zero n) (gathered_skip row n i g e)

  no_more : (j : ℕ) → get_or (replicate 16 none_asked) j none_asked ≡ none_asked
  no_more j = go (dec_lt j 16)
    where
      go : Dec (j < 16) → get_or (replicate 16 none_asked) j none_asked ≡ none_asked
      go (yes q) = get_or-replicate 16 j none_asked none_asked q
      go (no q) = get_or-eq_default (replicate 16 none_asked) none_asked {n = j} (omega arith)

  -- a place behind the tasks above is empty
  pub row_past : (i j : ℕ) → count_to t k i ≤ j → get_or (row_to t k i) j none_asked ≡ none_asked
  unfolding row_to total
  row_past zero j h = no_more j
  row_past (suc i) j h = go (is_above t i k) h (row_past i j)
    where
      go : (b : Bool) → count_to t k i + one_if b ≤ j → (count_to t k i ≤ j → get_or (row_to t k i) j none_asked ≡ none_asked)
          → get_or (cond b (set (row_to t k i) (count_to t k i) (asked_of (task_at t i))) (row_to t k i)) j none_asked ≡ none_asked
      go true q f = get_or-set_other (row_to t k i) (count_to t k i) j (asked_of (task_at t i)) none_asked (λ z. omega arith) ∙ f (omega arith)
      go false q f = f (omega arith)

  -- the same of every load: cost and spacing are 0 there
  pub load_past : (j : ℕ) → (load_at t k).count ≤ j → get_or (load_at t k).above j none_asked ≡ none_asked
  unfolding load_at
  load_past j = go (ltb 16 t.count) (leb t.count k)
    where
      whole : Load
      whole = load_with (cost_of (task_at t k)) (count_to t k t.count) (row_to t k t.count)

      found : Bool → Bool → Load
      found a b = cond a (empty_load 0) (cond b (empty_load 0) whole)

      go : (a b : Bool) → (found a b).count ≤ j → get_or (found a b).above j none_asked ≡ none_asked
      go true b h = no_more j
      go false true h = no_more j
      go false false h = row_past t.count j h

  -- the load of a task of an accepted table
  pub load_is : judged t ≡ Accepted → k < t.count → LoadOf t k (load_at t k)
  unfolding load_at
  load_is good h =
      let g = row_gathered good t.count (le_refl t.count) in
      rw (le-ltb 16 t.count (few t good), lt-leb t.count k h)
      (record {
        ready = record { some = cost_some t good k h; few = omega (arith, count_few t.count, few t good); spaced = g.spaced };
        own = refl;
        parts = g.parts;
      })

-- it asks for as much as the table, at every stretch
pub load_same : (t : Table) (k : ℕ) (l : Load) → LoadOf t k l → (r : ℕ) → load_demand l r ≡ demand t k r
unfolding load_demand demand
load_same t k l y r = rw (y.own, y.parts r)
