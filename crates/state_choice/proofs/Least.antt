-- The choice is the open job above every other open job, and there is none exactly if nothing is open: by induction on the positions passed.
use Prim.Native.Nat.{ℕ, zero, suc, ◌≤◌, ◌<◌}
use mathlib.Core.Path.{◌≡◌, refl, sym, ◌∙◌}
use mathlib.Core.Bool.{Bool, true, false, cond}
use mathlib.Core.List.{List}
use mathlib.Core.Logic.{inl, inr, ◌↔◌}
use native.Mathlib.Decide.{ℕ_discrete}
use native.Mathlib.Nat.{not-suc-le-zero}
use native.Mathlib.Omega.{arith}
use borrow.Author.Tests.{ltb-true, ltb-false}
use lib.Dec.{ltb}
use lib.ListN.{get_or, set}
use lib.Seq.{get_or-set_other}
use Rattle.laws.proofs.Tests.{true_not_false, by_test}
use Rattle.task_records.specs.declared.Record.{Record}
use Rattle.task_steps.specs.Opening.{no_record}
use Rattle.task_steps.specs.Rank.{JobAbove, key_of}
use Rattle.task_steps.proofs.Ranks.{Before, above_once, key_tells}
use Rattle.state_choice.specs.Best.{Best}
use Rattle.state_choice.specs.Choice.{wins, better, best_to}
use Rattle.state_choice.specs.Least.{Least, NoneOpen}

-- `Least` by the keys that the scan compares: `least_exactly` shows that they agree
pub record Chosen (l : List Record) (n p : ℕ) : Type 0 where
  pub below : p < n
  pub live : (get_or l p no_record).live ≡ true
  pub least : (i : ℕ) → i < n → (get_or l i no_record).live ≡ true → (i ≡ p → ⊥) → Before (get_or l p no_record) p (get_or l i no_record) i

-- what the scan may have found
pub data Found (l : List Record) (n : ℕ) : Best → Type 0 where
  some : {p : ℕ} → Chosen l n p → Found l n (record { found = true; key = key_of (get_or l p no_record); at = p })
  nothing : {k p : ℕ} → NoneOpen l n → Found l n (record { found = false; key = k; at = p })

module _ (l : List Record) where
  abbrev at : ℕ → Record
  at i = get_or l i no_record

  one_more : (n i : ℕ) → i < suc n → (i ≡ n → ⊥) → i < n
  one_more n i h q = omega arith

  step : (n : ℕ) (b : Best) → Found l n b → Found l (suc n) (better b (at n) n)
  step n b (some {p} f) = go (at n).live (ltb (key_of (at n)) (key_of (at p))) refl refl
    where
      new : (at n).live ≡ true → key_of (at n) < key_of (at p) → Chosen l (suc n) n
      new v k =
          record {
            below = omega arith;
            live = v;
            least = λ i h o q. inl (earlier i (one_more n i h q) o (ℕ_discrete i p));
          }
        where
          earlier : (i : ℕ) → i < n → (at i).live ≡ true → Dec (i ≡ p) → key_of (at n) < key_of (at i)
          earlier i h o (yes q) = rw q k
          earlier i h o (no q) = after (f.least i h o q)
            where
              after : Before (at p) p (at i) i → key_of (at n) < key_of (at i)
              after (inl x) = omega arith
              after (inr x) = omega (arith, x.0)

      old : ((at n).live ≡ true → key_of (at p) ≤ key_of (at n)) → Chosen l (suc n) p
      old k =
          record {
            below = omega (arith, f.below);
            live = f.live;
            least = λ i h o q. later i h o q (ℕ_discrete i n);
          }
        where
          tie : (i : ℕ) → i ≡ n → key_of (at p) ≤ key_of (at i) → Before (at p) p (at i) i
          tie i q x = side (ℕ_discrete (key_of (at p)) (key_of (at i)))
            where
              side : Dec (key_of (at p) ≡ key_of (at i)) → Before (at p) p (at i) i
              side (yes y) = inr (y, omega (arith, f.below))
              side (no y) = inl (omega arith)

          later : (i : ℕ) → i < suc n → (at i).live ≡ true → (i ≡ p → ⊥) → Dec (i ≡ n) → Before (at p) p (at i) i
          later i h o q (yes e) = tie i e (rw e (k (rw e at o)))
          later i h o q (no e) = f.least i (one_more n i h e) o q

      go : (v w : Bool) → (at n).live ≡ v → ltb (key_of (at n)) (key_of (at p)) ≡ w
          → Found l (suc n) (cond (cond v (cond true w true) false) (record { found = true; key = key_of (at n); at = n })
          (record { found = true; key = key_of (at p); at = p }))
      go true true ev ew = some (new ev (ltb-true _ _ ew))
      go true false ev ew = some (old (λ o. ltb-false _ _ ew))
      go false w ev ew = some (old (λ o. absurd (true_not_false (sym o ∙ ev))))
  step n b (nothing {k} {p} f) = go (at n).live refl
    where
      none_yet : (at n).live ≡ false → NoneOpen l (suc n)
      none_yet e i h = side (ℕ_discrete i n)
        where
          side : Dec (i ≡ n) → (at i).live ≡ false
          side (yes q) = rw q e
          side (no q) = f i (one_more n i h q)

      go : (v : Bool) → (at n).live ≡ v
          → Found l (suc n) (cond (cond v (cond false (ltb (key_of (at n)) k) true) false) (record { found = true; key = key_of (at n); at = n })
          (record { found = false; key = k; at = p }))
      go true e = some {p = n} (record { below = omega arith; live = e; least = λ i h o q. absurd (true_not_false (sym o ∙ f i (one_more n i h q))) })
      go false e = nothing (none_yet e)

  pub best_is : (n : ℕ) → Found l n (best_to l n)
  unfolding best_to
  best_is zero = nothing (λ i h. absurd (not-suc-le-zero h))
  best_is (suc n) = step n (best_to l n) (best_is n)

  -- by keys or in the rules' words, D being a number of 32 bits as in every record
  module _ (n : ℕ) (small : (i : ℕ) → i < n → (at i).task.d < 4294967296) where
    pub least_exactly : (p : ℕ) → Chosen l n p ↔ Least l n p
    least_exactly p = (
      λ f. record { below = f.below; live = f.live; least = λ i h o q. (same i f.below h).0 (f.least i h o q) },
      λ f. record { below = f.below; live = f.live; least = λ i h o q. (same i f.below h).1 (f.least i h o q) },
    )
      where
        same : (i : ℕ) → p < n → i < n → Before (at p) p (at i) i ↔ JobAbove (at p) p (at i) i
        same i a b = key_tells (at p) p (at i) i (small p a) (small i b)

    -- there is no more than one
    pub least_one : (p q : ℕ) → Least l n p → Least l n q → p ≡ q
    least_one p q f g = go (ℕ_discrete p q)
      where
        go : Dec (p ≡ q) → p ≡ q
        go (yes e) = e
        go (no e) =
            absurd (above_once (at p) p (at q) q (f.least q g.below g.live (λ z. e (sym z))) (g.least p f.below f.live e))

  -- what was found stands at one of the positions
  pub found_below : (n : ℕ) → (best_to l n).found ≡ true → (best_to l n).at < n
  found_below n e = go (best_to l n) (best_is n) e
    where
      go : (b : Best) → Found l n b → b.found ≡ true → b.at < n
      go b (some f) q = f.below
      go b (nothing f) q = absurd (true_not_false (sym q))

  -- at most the positions passed, whether one was found or not
  best_most : (n : ℕ) → (best_to l n).at ≤ n
  unfolding best_to
  best_most zero = omega arith
  best_most (suc n) =
      by_test (λ (b : Best). b.at ≤ suc n) (wins (best_to l n) (at n).live (key_of (at n))) _ _ (λ e. omega arith) (λ e. omega (arith, best_most n))

  -- where there is a position, it is one of them
  pub best_within : (n : ℕ) → 0 < n → (best_to l n).at < n
  unfolding best_to
  best_within zero h = absurd (not-suc-le-zero h)
  best_within (suc n) h =
      by_test (λ (b : Best). b.at < suc n) (wins (best_to l n) (at n).live (key_of (at n))) _ _ (λ e. omega arith) (λ e. omega (arith, best_most n))

-- a record stored at a position not yet passed changes nothing of what was found
pub best_stored : (l : List Record) (n : ℕ) (x : Record) → best_to (set l n x) n ≡ best_to l n
unfolding best_to
best_stored l n x = go n (λ i h. get_or-set_other l n i x no_record (λ q. omega arith))
  where
    go : (m : ℕ) → ((i : ℕ) → i < m → get_or (set l n x) i no_record ≡ get_or l i no_record) → best_to (set l n x) m ≡ best_to l m
    go zero h = refl
    go (suc m) h = rw (go m (λ i q. h i (omega arith)), h m (omega arith))
