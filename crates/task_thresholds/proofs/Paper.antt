-- Published facts of w and h (Rules, "Sources") that the window's proof leans on: a quotient is bounded by its remainder.
use Prim.Native.Nat.{ℕ, ◌+◌, ◌-◌, ◌*◌, ◌/◌, max, ◌≤◌, ◌<◌}
use mathlib.Core.Path.{◌≡◌, ◌∙◌}
use native.Mathlib.Nat.{div-eq_of_lt, div-eq_of_lt-le, div-mul-le_self, div-le_self, le-div_iff_mul-le, one-mul, mul-add, mul-one}
use native.Mathlib.Decide.{ℕ_discrete}
use native.Mathlib.Omega.{arith}
use borrow.Author.Tests.{eq-eqb, ne_eqb}
use Rattle.laws.specs.Numbers.{ceiling}
use Rattle.laws.proofs.Numbers.{ceiling_covers}
use Rattle.task_thresholds.specs.Thresholds.{w_of, h_of}

module _ (m k : ℕ) (some : 1 ≤ m) where
  w_is : w_of m k ≡ max 1 (m / (k - m))
  w_is = rw (ne_eqb m 0 (λ z. omega arith))

  h_is : h_of m k ≡ ceiling (k - m) m
  h_is = rw (ne_eqb m 0 (λ z. omega arith))

  -- fewer misses than hits: w = 1 and K <= m (h + 1)
  pub w_one : 2 * m < k → w_of m k ≡ 1
  w_one l = w_is ∙ rw (div-eq_of_lt {n = m} {m = k - m} (omega arith))

  pub h_covers : m < k → k ≤ m * (h_of m k + 1)
  h_covers l = rw (h_is, mul-add, mul-one) (omega (arith, ceiling_covers (k - m) m some))

  -- as many misses as hits, or more: h = 1 and w (K - m) <= m
  pub h_one : m < k → k ≤ 2 * m → h_of m k ≡ 1
  h_one l p = h_is ∙ div-eq_of_lt-le m {m = k - m + (m - 1)} (omega arith) (omega arith)

  pub w_within : m < k → k ≤ 2 * m → w_of m k * (k - m) ≤ m
  w_within l p =
      let q : 1 ≤ m / (k - m) = (le-div_iff_mul-le {k = k - m} (omega arith)).1 (rw one-mul (omega arith)) in
      let e : max 1 (m / (k - m)) ≡ m / (k - m) = omega arith in
      rw (w_is, e) (div-mul-le_self m (k - m))

  pub w_some : 1 ≤ w_of m k
  w_some = rw w_is (omega arith)

  -- the ends of their ranges
  pub w_most : m < k → w_of m k ≤ m
  w_most l = rw w_is (omega (arith, div-le_self m (k - m)))

-- on every pair, w is at most the larger of 1 and m
pub w_small : (m k : ℕ) → w_of m k ≤ max 1 m
w_small m k = go (ℕ_discrete m 0)
  where
    go : Dec (m ≡ 0) → w_of m k ≤ max 1 m
    go (yes z) = rw (eq-eqb m 0 z) (omega arith)
    go (no n) = rw (ne_eqb m 0 n) (omega (arith, div-le_self m (k - m)))

pub h_some : (m k : ℕ) → m < k → 1 ≤ h_of m k
h_some m k l = go (ℕ_discrete m 0)
  where
    go : Dec (m ≡ 0) → 1 ≤ h_of m k
    go (yes z) = rw (eq-eqb m 0 z) (omega arith)
    go (no n) = rw (ne_eqb m 0 n) ((le-div_iff_mul-le {k = m} (omega arith)).1 (rw one-mul (omega arith)))
