-- The smallest number from 1 to n that is not exceeded by what f asks for there.
use Rattle.std.specs.Prelude.{ℕ, zero, suc, ◌≤◌, Bool, true, false, leb, Option, Some, None}

pub record Smallest (f : ℕ → ℕ) (n r : ℕ) : Type 0 where
  pub some : 1 ≤ r
  pub within : r ≤ n
  pub fits : f r ≤ r
  pub least : (x : ℕ) → 1 ≤ x → x ≤ n → f x ≤ x → r ≤ x

abbrev pub NoneFits : (ℕ → ℕ) → ℕ → Type 0
NoneFits f n = (x : ℕ) → 1 ≤ x → x ≤ n → f x ≤ x → ⊥

-- a fit stands; after none, x is taken where it fits
abbrev pub or_next : Option ℕ → Bool → ℕ → Option ℕ
or_next (Some r) fits x = Some r
or_next None true x = Some x
or_next None false x = None

-- the first fit among 1 to n
unfoldable pub first_fit : (ℕ → ℕ) → ℕ → Option ℕ
first_fit f zero = None
first_fit f (suc n) = or_next (first_fit f n) (leb (f (suc n)) (suc n)) (suc n)
