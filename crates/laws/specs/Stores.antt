-- A row that is filled from the front.
use Rattle.std.specs.Prelude.{ℕ, zero, suc, List, set}

module _ {A : Type 0} where
  -- the row once its first n places hold f
  unfoldable pub filled : (ℕ → A) → ℕ → List A → List A
  filled f zero l = l
  filled f (suc n) l = set (filled f n l) n (f n)
