-- A test of each item at the front of a row is that of the first places: by induction on the row.
use Prim.Native.Nat.{ℕ, zero, suc, ◌≤◌}
use mathlib.Core.Path.{◌≡◌, refl, sym, ap, ◌∙◌}
use mathlib.Core.Bool.{Bool, true, false, cond, ◌&&◌}
use mathlib.Core.List.{List, [], ◌∷◌}
use native.Mathlib.Omega.{arith}
use lib.ListN.{length, get_or, take}
use Rattle.std.specs.List.{list_all, zip}
use Rattle.tally_histories.specs.Sound.{all_below}
use Rattle.tally_histories.proofs.InOrder.{cond_on}

-- the first place apart
below_front : (f : ℕ → Bool) (n : ℕ) → all_below f (suc n) ≡ cond (f 0) (all_below (λ i. f (suc i)) n) false
unfolding all_below
below_front f zero = go (f 0)
  where
    go : (b : Bool) → cond true b false ≡ cond b true false
    go true = refl
    go false = refl
below_front f (suc n) =
    ap (λ (b : Bool). cond b (f (suc n)) false) (below_front f n) ∙ sym (cond_on (f 0) (all_below (λ i. f (suc i)) n) (f (suc n)))

module _ {A : Type 0} where
  pub listed : (p : A → Bool) (l : List A) (d : A) (n : ℕ) → n ≤ length l → list_all p (take n l) ≡ all_below (λ i. p (get_or l i d)) n
  unfolding all_below
  listed p l d zero h = refl
  listed p [] d (suc n) h = absurd (omega arith)
  listed p (x ∷ l) d (suc n) h = front (p x) (listed p l d n (omega arith)) ∙ sym (below_front (λ i. p (get_or (x ∷ l) i d)) n)
    where
      front : (b : Bool) {u v : Bool} → u ≡ v → (b && u) ≡ cond b v false
      front true e = e
      front false e = refl

  pub paired : {B : Type 0} (p : A × B → Bool) (l : List A) (m : List B) (d : A) (e : B) (n : ℕ) → n ≤ length l → n ≤ length m
      → list_all p (zip (take n l) m) ≡ all_below (λ i. p (get_or l i d, get_or m i e)) n
  unfolding all_below
  paired p l m d e zero h k = refl
  paired p [] m d e (suc n) h k = absurd (omega arith)
  paired p (x ∷ l) [] d e (suc n) h k = absurd (omega arith)
  paired p (x ∷ l) (y ∷ m) d e (suc n) h k =
      front (p (x, y)) (paired p l m d e n (omega arith) (omega arith)) ∙ sym (below_front (λ i. p (get_or (x ∷ l) i d, get_or (y ∷ m) i e)) n)
    where
      front : (b : Bool) {u v : Bool} → u ≡ v → (b && u) ≡ cond b v false
      front true q = q
      front false q = refl
