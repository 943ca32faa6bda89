-- Quotients and remainders that fit.
use Rattle.std.proofs.Common.{ℕ, ◌*◌, ◌/◌, ◌%◌, ◌<◌, ◌≤◌, mul-le-mul_right, mod-lt, div-le_self, arith}

-- a remainder by 1 to 16 is a position
pub seated : (x n : ℕ) → 1 ≤ n → n ≤ 16 → x % n < 16
seated x n p q = omega (arith, mod-lt x p)

pub over : (x n : ℕ) → x < 4294967296 → x / n < 4294967296
over x n h = omega (arith, div-le_self x n)

-- 0 to 3 spreads
pub spreads : (x n : ℕ) → x % 4 * n ≤ 3 * n
spreads x n = mul-le-mul_right n (omega arith)
