-- What a row holds that is stored to at a place, or filled from the front up to a place, and what its front and its rest hold: by induction on the place.
use Prim.Native.Nat.{ℕ, zero, suc, ◌≤◌, ◌<◌}
use mathlib.Core.Path.{◌≡◌, refl, sym, ◌∙◌, ap}
use mathlib.Core.List.{List, [], ◌∷◌}
use native.Mathlib.Nat.{not-suc-le-zero}
use native.Mathlib.Decide.{ℕ_discrete}
use native.Mathlib.Omega.{arith}
use lib.ListN.{length, get_or, set, length-set, take, drop}
use lib.Seq.{get_or-set_same, get_or-set_other, ext_get_or}
use Rattle.laws.specs.Stores.{filled}

module _ {A : Type 0} (f : ℕ → A) (l : List A) (d : A) where
  pub length_filled : (n : ℕ) → length (filled f n l) ≡ length l
  unfolding filled
  length_filled zero = refl
  length_filled (suc n) = length-set (filled f n l) n (f n) ∙ length_filled n

  pub filled_below : (n i : ℕ) → n ≤ length l → i < n → get_or (filled f n l) i d ≡ f i
  unfolding filled
  filled_below zero i h p = absurd (not-suc-le-zero p)
  filled_below (suc n) i h p = go (ℕ_discrete i n) (filled_below n i (omega arith))
    where
      go : Dec (i ≡ n) → (i < n → get_or (filled f n l) i d ≡ f i) → get_or (set (filled f n l) n (f n)) i d ≡ f i
      go (yes q) k = rw q (get_or-set_same (filled f n l) n (f n) d (rw (length_filled n) h))
      go (no q) k = get_or-set_other (filled f n l) n i (f n) d q ∙ k (omega arith)

  pub filled_past : (n i : ℕ) → n ≤ i → get_or (filled f n l) i d ≡ get_or l i d
  unfolding filled
  filled_past zero i h = refl
  filled_past (suc n) i h =
      get_or-set_other (filled f n l) n i (f n) d (λ q. omega arith) ∙ filled_past n i (omega arith)

-- a row is filled by what f is below n alone
pub filled_same : {A : Type 0} (f g : ℕ → A) (l : List A) (n : ℕ) → ((i : ℕ) → i < n → f i ≡ g i) → filled f n l ≡ filled g n l
unfolding filled
filled_same f g l zero h = refl
filled_same f g l (suc n) h = rw (filled_same f g l n (λ i p. h i (omega arith)), h n (omega arith))

module _ {A : Type 0} (s l : List A) (d : A) where
  -- filled with another list's elements, to the end, a row of its length is that list
  pub filled_whole : length s ≡ length l → filled (λ i. get_or s i d) (length s) l ≡ s
  filled_whole e =
      let g : ℕ → A = λ i. get_or s i d in
      let n : length (filled g (length s) l) ≡ length s = length_filled g l d (length s) ∙ sym e in
      ext_get_or d (filled g (length s) l) s n (λ i h. filled_below g l d (length s) i (omega arith) (rw n at h))

-- the front and the rest of a row that is stored to
module _ {A : Type 0} where
  pub take-set : (n k : ℕ) (l : List A) (x : A) → take n (set l k x) ≡ set (take n l) k x
  take-set zero k l x = refl
  take-set (suc n) k [] x = refl
  take-set (suc n) zero (y ∷ l) x = refl
  take-set (suc n) (suc k) (y ∷ l) x = ap (λ (r : List A). y ∷ r) (take-set n k l x)

  pub drop-set : (n k : ℕ) (l : List A) (x : A) → k < n → drop n (set l k x) ≡ drop n l
  drop-set zero k l x h = absurd (not-suc-le-zero h)
  drop-set (suc n) k [] x h = refl
  drop-set (suc n) zero (y ∷ l) x h = refl
  drop-set (suc n) (suc k) (y ∷ l) x h = drop-set n k l x (omega arith)

  module _ (f : ℕ → A) (l : List A) (n : ℕ) where
    pub take_filled : (m : ℕ) → take n (filled f m l) ≡ filled f m (take n l)
    unfolding filled
    take_filled zero = refl
    take_filled (suc m) = take-set n m (filled f m l) (f m) ∙ ap (λ (r : List A). set r m (f m)) (take_filled m)

    pub drop_filled : (m : ℕ) → m ≤ n → drop n (filled f m l) ≡ drop n l
    unfolding filled
    drop_filled zero h = refl
    drop_filled (suc m) h = drop-set n m (filled f m l) (f m) h ∙ drop_filled m (omega arith)
