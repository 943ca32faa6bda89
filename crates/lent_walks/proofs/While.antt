-- The test of a `while` is one step of a walk: where it holds the turn goes on, and where it fails the exit is taken.
use Prim.Native.Nat.{ℕ, ◌*◌, ◌<◌, ◌^◌}
use native.Mathlib.Nat.{le_of_lt, lt_of_le_of_lt, lt_trans, mul-le-mul_right}
use mathlib.Core.Bool.{Bool, not}
use mathlib.Core.List.{List}
use seplogic.Ra.Ura.{Ura}
use lib.Dec.{T, lit<}
use mir.Syntax.{Opd as Operand, Body, skip, seq, cond, exit}
use mir.Val.{vbool}
use prog.Wp.{Env, Calls, Loops, exits}
use types.Logic.{Logic}
use types.Kit.{Item, Post, post, prop, runs, Seq, ◌$◌}
use types.Run.{Opd, first, branches, skips, jumps}

module _ {M : Type 1} {𝓤 : Ura M} {𝓛 : Logic 𝓤} {K : Type 0} {Γ : List (Item 𝓤)} {E : Env 𝓤 𝓛.H} {C : Calls 𝓤 𝓛.H}
    {Λ : Loops 𝓤 𝓛.H} {q : Post 𝓤 𝓛.H} where
  open 𝓛 use {H}

  pub tests : K → {c : Operand} {n : ℕ} {b : Body} {y : Bool} → Opd K 𝓛 Γ E c (vbool y)
      → (T y → Seq K 𝓛 Γ (runs C Λ E b q)) → (T (not y) → Seq K 𝓛 Γ (prop (post 𝓤 H q (exits n)))) → Seq K 𝓛 Γ (runs C Λ E (seq (cond c skip (exit n)) b) q)
  tests t o held failed = first t $ branches t o (λ h. skips t $ record { prf = (held h).prf }) (λ h. jumps t $ record { prf = (failed h).prf })

-- the offset of element i of n elements of s bytes fits a usize
pub scaled : (i n s : ℕ) → i < n → n * s < 2 ^ 63 → i * s < 2 ^ 64
scaled i n s l r = lt_trans (lt_of_le_of_lt (mul-le-mul_right s (le_of_lt l)) r) (lit< tt)
