-- A sum over positions follows its terms, also where it grows or changes at one place: by induction on how many there are.
use Prim.Native.Nat.{ℕ, zero, suc, ◌+◌, ◌*◌, ◌≤◌, ◌<◌}
use mathlib.Core.Path.{◌≡◌, refl}
use native.Mathlib.Nat.{le_refl, add-le-add}
use native.Mathlib.Decide.{ℕ_discrete}
use native.Mathlib.Omega.{arith}
use Rattle.laws.specs.Sums.{total}

plus_zero : (n : ℕ) → n + zero ≡ n
plus_zero n = omega arith

plus_suc : (n k : ℕ) → n + suc k ≡ suc (n + k)
plus_suc n k = omega arith

module _ (f g : ℕ → ℕ) where
  pub total_mono : (n : ℕ) → ((i : ℕ) → i < n → f i ≤ g i) → total f n ≤ total g n
  unfolding total
  total_mono zero h = le_refl 0
  total_mono (suc n) h = add-le-add (total_mono n (λ i p. h i (omega arith))) (h n (omega arith))

  pub total_same : (n : ℕ) → ((i : ℕ) → i < n → f i ≡ g i) → total f n ≡ total g n
  unfolding total
  total_same zero h = refl
  total_same (suc n) h = rw (total_same n (λ i p. h i (omega arith)), h n (omega arith))

-- terms of at most b
pub total_small : (f : ℕ → ℕ) (b n : ℕ) → ((i : ℕ) → i < n → f i ≤ b) → total f n ≤ n * b
unfolding total
total_small f b zero h = omega arith
total_small f b (suc n) h = omega (arith, total_small f b n (λ i p. h i (omega arith)), h n (omega arith))

pub total_zero : (f : ℕ → ℕ) (n : ℕ) → ((i : ℕ) → i < n → f i ≡ 0) → total f n ≡ 0
unfolding total
total_zero f zero h = refl
total_zero f (suc n) h = omega (arith, total_zero f n (λ i p. h i (omega arith)), h n (omega arith))

pub total_at : (f : ℕ → ℕ) (n i : ℕ) → i < n → f i ≤ total f n
unfolding total
total_at f zero i p = omega arith
total_at f (suc n) i p = go (ℕ_discrete i n) (total_at f n i)
  where
    go : Dec (i ≡ n) → (i < n → f i ≤ total f n) → f i ≤ total f n + f n
    go (yes e) k = rw e (omega arith)
    go (no e) k = omega (arith, k (omega arith))

-- one place changes in any way
pub total_shift : (f g : ℕ → ℕ) (n j : ℕ) → j < n → ((i : ℕ) → i < n → (i ≡ j → ⊥) → f i ≤ g i) → total f n + g j ≤ total g n + f j
unfolding total
total_shift f g zero j p h = omega arith
total_shift f g (suc n) j p h = go (ℕ_discrete j n) (λ q. total_shift f g n j q (λ i r. h i (omega arith)))
  where
    go : Dec (j ≡ n) → (j < n → total f n + g j ≤ total g n + f j) → total f n + f n + g j ≤ total g n + g n + f j
    go (yes e) k = rw e (omega (arith, total_mono f g n (λ i q. h i (omega arith) (λ z. omega arith))))
    go (no e) k = omega (arith, k (omega arith), h n (omega arith) (λ z. omega arith))

-- a longer sum is no smaller
pub total-more : (f : ℕ → ℕ) (n k : ℕ) → total f n ≤ total f (n + k)
unfolding total
total-more f n zero = rw (plus_zero n) (le_refl (total f n))
total-more f n (suc k) = rw (plus_suc n k) (omega (arith, total-more f n k))

-- ones from n on
pub total_ones : (f : ℕ → ℕ) (n k : ℕ) → ((i : ℕ) → n ≤ i → f i ≡ 1) → total f (n + k) ≡ total f n + k
unfolding total
total_ones f n zero h = rw (plus_zero n) (omega arith)
total_ones f n (suc k) h = rw (plus_suc n k) (omega (arith, total_ones f n k h, h (n + k) (omega arith)))
