-- `h` meets its contract: std rounds a quotient up by its remainder, and the rules by what is added before.
use Rattle.std.proofs.Common.{ℕ, ◌≡◌, ◌+◌, ◌-◌, ◌*◌, ◌/◌, ◌%◌, ◌<◌, ◌≤◌, min, arith}
use native.Mathlib.Decide.{dec_le}
use Rattle.std.proofs.Math.Nat.{add-mul}
use Rattle.std.proofs.lemmas.Nat.{div-mul-add}
use borrow.Author.Tests.{ne_eqb}
use Rattle.laws.specs.Numbers.{ceiling}
use Rattle.task_thresholds.proofs.h.Goals as goal

rounded_up : (a b : ℕ) → 0 < b → a / b + min 1 (a % b) ≡ ceiling a b
rounded_up a b h = go (dec_le (a % b) 0)
  where
    go : Dec (a % b ≤ 0) → a / b + min 1 (a % b) ≡ ceiling a b
    go (yes e) =
        let s : a + (b - 1) ≡ a / b * b + (b - 1) = omega arith in
        let l : b - 1 < b = omega arith in
        rw (s, div-mul-add (a / b) b (b - 1) l) (omega arith)
    go (no n) =
        let s : a + (b - 1) ≡ (a / b + 1) * b + (a % b - 1) = rw add-mul (omega arith) in
        let l : a % b - 1 < b = omega arith in
        rw (s, div-mul-add (a / b + 1) b (a % b - 1) l) (omega arith)

pub returns-else-m-eq0 : goal.returns-else-m-eq0
returns-else-m-eq0 c =
    rw (ne_eqb _ _ c.if-m-eq0.false, c.div_ceil.ensures, c.top.ensures, ne_eqb _ _ c.if-m-eq0.false) (rounded_up (c.args.k - c.args.m) c.args.m (omega arith))
