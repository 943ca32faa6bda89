-- Sums over positions.
use Rattle.std.specs.Prelude.{ℕ, zero, suc, ◌+◌}

-- f at the first n positions, added up
unfoldable pub total : (ℕ → ℕ) → ℕ → ℕ
total f zero = 0
total f (suc n) = total f n + f n
