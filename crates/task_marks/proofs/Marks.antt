-- Marks and counts stay in their places: what is kept leaves room for one mark more, and a count in 64 bits rises by one.
use Prim.Native.Nat.{ℕ, suc, ◌+◌, ◌-◌, ◌≤◌, ◌<◌, ◌%◌, ◌^◌, min}
use mathlib.Core.Path.{◌≡◌}
use native.Mathlib.Decide.{dec_lt}
use native.Mathlib.Nat.{mod-lt, mod-le, pow-suc}
use native.Mathlib.Omega.{arith}
use lib.Pow.{pow_pos, pow_mono}
use Rattle.task_marks.specs.Marks.{count_of, kept_of, pushed}

pub kept-room : (x e : ℕ) → e < 64 → x % 2 ^ e < 2 ^ 63
kept-room x e h =
    let p : e ≤ 63 = omega arith in
    omega (arith, mod-lt x (pow_pos e), pow_mono p)

-- a mark more stays within one place more, up to K
pub pushed-fits : (k x b n : ℕ) → 1 ≤ k → k ≤ 64 → b ≤ 1 → x < 2 ^ min k n → pushed k x b < 2 ^ min k (n + 1)
pushed-fits k x b n p q c h = go (dec_lt n k)
  where
    go : Dec (n < k) → pushed k x b < 2 ^ min k (n + 1)
    go (yes l) =
        let e : min k n ≡ n = omega arith in
        let f : min k (n + 1) ≡ suc n = omega arith in
        rw (f, pow-suc) (omega (arith, mod-le x (2 ^ kept_of k), rw e at h))
    go (no l) =
        let e : kept_of k ≡ k - 1 = omega arith in
        let f : min k (n + 1) ≡ suc (k - 1) = omega arith in
        rw (f, pow-suc, e) (omega (arith, mod-lt x (pow_pos (k - 1))))

-- a count that 64 bits hold rises by one
pub count_rises : (n : ℕ) → n + 1 < 2 ^ 64 → count_of n ≡ n + 1
count_rises n h = omega arith
