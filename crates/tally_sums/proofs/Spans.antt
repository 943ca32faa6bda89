-- The least and the most of both do not depend on which comes first, nor on the grouping, and stay sound: by cases on what is absent.
use Prim.Native.Nat.{ℕ, ◌+◌}
use mathlib.Core.Path.{◌≡◌, refl, sym}
use native.Mathlib.Omega.{arith}
use Rattle.std.specs.Prelude.{Option, None, Some}
use Rattle.tally_rules.specs.declared.Span.{Span}
use Rattle.tally_rules.specs.Tally.{between, widened}
use Rattle.tally_rules.specs.Sound.{Spans, none, some}
use Rattle.tally_sums.specs.Joining.{wider}

same_span : {a b c d : ℕ} → a ≡ c → b ≡ d → between a b ≡ between c d
same_span p q = rw (p, q)

pub wider_absent : (s : Option Span) → wider s None ≡ s
wider_absent None = refl
wider_absent (Some a) = refl

pub wider_either : (s t : Option Span) → wider s t ≡ wider t s
wider_either None t = sym (wider_absent t)
wider_either (Some a) None = refl
wider_either (Some a) (Some c) = same_span (omega arith) (omega arith)

pub wider_on : (s t u : Option Span) → wider (wider s t) u ≡ wider s (wider t u)
wider_on None t u = refl
wider_on (Some a) None u = refl
wider_on (Some a) (Some c) None = refl
wider_on (Some a) (Some c) (Some e) = same_span (omega arith) (omega arith)

-- one response more in the first of them
pub wider-more : (s t : Option Span) (r : ℕ) → wider (widened s r) t ≡ widened (wider s t) r
wider-more None None r = refl
wider-more None (Some c) r = same_span (omega arith) (omega arith)
wider-more (Some a) None r = refl
wider-more (Some a) (Some c) r = same_span (omega arith) (omega arith)

pub spans_both : {d m n x y : ℕ} {s t : Option Span} → Spans d m x s → Spans d n y t → Spans d (m + n) (x + y) (wider s t)
spans_both (none p q) (none u v) = none (omega arith) (omega arith)
spans_both (none p q) (some u v w) = some (omega arith) v w
spans_both (some p q r) (none u v) = some (omega arith) q r
spans_both (some p q r) (some u v w) = some (omega arith) (omega arith) (omega arith)
