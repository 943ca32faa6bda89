-- The key is the order by class, then D, then position: of two jobs at different positions exactly one is above, and above goes on.
use Prim.Native.Nat.{ℕ, ◌<◌}
use mathlib.Core.Path.{◌≡◌, sym, ◌∙◌}
use mathlib.Core.Logic.{◌⊎◌, inl, inr, ◌↔◌}
use native.Mathlib.Decide.{ℕ_discrete, dec_lt}
use native.Mathlib.Omega.{arith}
use Rattle.table_rules.specs.Order.{Higher}
use Rattle.table_rules.proofs.Order.{higher_once, higher_some, higher_on}
use Rattle.task_records.specs.declared.Record.{Record}
use Rattle.task_steps.specs.Rank.{JobAbove, key_of}

-- smaller key, or equal keys and smaller position
abbrev pub Before : Record → ℕ → Record → ℕ → Type 0
Before r i q j = (key_of r < key_of q) ⊎ ((key_of r ≡ key_of q) × (i < j))

module _ (r : Record) (i : ℕ) (q : Record) (j : ℕ) where
  -- never both
  pub above_once : JobAbove r i q j → JobAbove q j r i → ⊥
  above_once (inl a) (inl b) = omega arith
  above_once (inl a) (inr b) = omega (arith, b.0)
  above_once (inr a) (inl b) = omega (arith, a.0)
  above_once (inr a) (inr b) = higher_once r.task i q.task j a.1 b.1

  -- never neither
  pub above_some : (i ≡ j → ⊥) → JobAbove r i q j ⊎ JobAbove q j r i
  above_some n = go (dec_lt r.class q.class) (ℕ_discrete r.class q.class) (higher_some r.task i q.task j n)
    where
      go : Dec (r.class < q.class) → Dec (r.class ≡ q.class) → Higher r.task i q.task j ⊎ Higher q.task j r.task i
          → JobAbove r i q j ⊎ JobAbove q j r i
      go (yes p) e h = inl (inl p)
      go (no p) (no e) h = inr (inl (omega arith))
      go (no p) (yes e) (inl h) = inl (inr (e, h))
      go (no p) (yes e) (inr h) = inr (inr (sym e, h))

  pub above_on : (p : Record) (k : ℕ) → JobAbove r i q j → JobAbove q j p k → JobAbove r i p k
  above_on p k (inl a) (inl b) = inl (omega arith)
  above_on p k (inl a) (inr b) = inl (omega (arith, b.0))
  above_on p k (inr a) (inl b) = inl (omega (arith, a.0))
  above_on p k (inr a) (inr b) = inr (a.0 ∙ b.0, higher_on r.task i q.task j p.task k a.1 b.1)

  -- the key tells it, D being a number of 32 bits
  pub key_tells : r.task.d < 4294967296 → q.task.d < 4294967296 → Before r i q j ↔ JobAbove r i q j
  key_tells dr dq = (there, back)
    where
      there : Before r i q j → JobAbove r i q j
      there (inl l) = go (dec_lt r.class q.class)
        where
          go : Dec (r.class < q.class) → JobAbove r i q j
          go (yes p) = inl p
          go (no p) = let e : r.class ≡ q.class = omega arith in inr (e, inl (omega arith))
      there (inr (e, l)) =
          let c : r.class ≡ q.class = omega (arith, e) in
          inr (c, inr (omega (arith, e, c), l))

      back : JobAbove r i q j → Before r i q j
      back (inl a) = inl (omega arith)
      back (inr (e, inl d)) = inl (omega (arith, e))
      back (inr (e, inr (d, l))) = inr (omega (arith, e, d), l)
