-- Of two tasks at different positions exactly one stands above the other, by D and then position, and above is transitive: by comparing D.
use Prim.Native.Nat.{ℕ, ◌<◌}
use mathlib.Core.Path.{◌≡◌, sym, ◌∙◌}
use mathlib.Core.Logic.{◌⊎◌, inl, inr}
use native.Mathlib.Decide.{ℕ_discrete, dec_lt}
use native.Mathlib.Omega.{arith}
use Rattle.table_rules.specs.declared.Task.{Task}
use Rattle.table_rules.specs.Order.{Higher}

pub higher_once : (a : Task) (i : ℕ) (b : Task) (j : ℕ) → Higher a i b j → Higher b j a i → ⊥
higher_once a i b j (inl p) (inl q) = omega arith
higher_once a i b j (inl p) (inr q) = omega (arith, q.0)
higher_once a i b j (inr p) (inl q) = omega (arith, p.0)
higher_once a i b j (inr p) (inr q) = omega (arith, p.1, q.1)

pub higher_some : (a : Task) (i : ℕ) (b : Task) (j : ℕ) → (i ≡ j → ⊥) → Higher a i b j ⊎ Higher b j a i
higher_some a i b j n = go (dec_lt a.d b.d) (ℕ_discrete a.d b.d) (dec_lt i j)
  where
    go : Dec (a.d < b.d) → Dec (a.d ≡ b.d) → Dec (i < j) → Higher a i b j ⊎ Higher b j a i
    go (yes p) e l = inl (inl p)
    go (no p) (no e) l = inr (inl (omega arith))
    go (no p) (yes e) (yes l) = inl (inr (e, l))
    go (no p) (yes e) (no l) = inr (inr (sym e, omega arith))

pub higher_on : (a : Task) (i : ℕ) (b : Task) (j : ℕ) (c : Task) (k : ℕ) → Higher a i b j → Higher b j c k → Higher a i c k
higher_on a i b j c k (inl p) (inl q) = inl (omega arith)
higher_on a i b j c k (inl p) (inr q) = inl (omega (arith, q.0))
higher_on a i b j c k (inr p) (inl q) = inl (omega (arith, p.0))
higher_on a i b j c k (inr p) (inr q) = inr (p.0 ∙ q.0, omega (arith, p.1, q.1))
