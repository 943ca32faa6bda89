-- A remainder by 2^40 taken early changes no fold.
use Prim.Native.Nat.{ℕ, ◌+◌, ◌*◌, ◌/◌, ◌%◌}
use mathlib.Core.Path.{◌≡◌, sym, ap, ◌∙◌}
use native.Mathlib.Nat.{add-mod-mod, add-mul-mod_self_left}
use native.Mathlib.Omega.{arith}
use Rattle.bench_sums.specs.Folds.{span, folded}

-- of the sum: what it leaves out is a multiple of 2^40
early : (a b : ℕ) → (3 * (a % span) + b) % span ≡ folded a b
early a b =
    let whole : (3 * (a % span) + b) + span * (3 * (a / span)) ≡ 3 * a + b = omega arith in
    sym (add-mul-mod_self_left (3 * (a % span) + b) span (3 * (a / span))) ∙ ap (λ (x : ℕ). x % span) whole

pub same_fold : (sum code : ℕ) → (3 * (sum % span) + code % span) % span ≡ folded sum code
same_fold sum code = add-mod-mod (3 * (sum % span)) code span ∙ early sum code

pub same_run : (sum p q : ℕ) → folded sum (64 * (p % span) + q) ≡ folded sum (64 * p + q)
same_run sum p q = omega arith
