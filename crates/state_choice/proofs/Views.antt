-- The view of the choice tells the answer: one case of the view for each of the answer, and each of its parts.
use mathlib.Core.Path.{◌≡◌, refl, sym, ap}
use Rattle.std.specs.Prelude.{Option, Some, None}
use Rattle.laws.proofs.Tests.{true_not_false}
use Rattle.state_choice.specs.Best.{Best, as_best}
use Rattle.state_choice.specs.declared.Best as D

pub best_tells : (a b : Option D.Best) → as_best a ≡ as_best b → a ≡ b
best_tells None None e = refl
best_tells None (Some b) e = absurd (true_not_false (sym (ap (λ (x : Best). x.found) e)))
best_tells (Some a) None e = absurd (true_not_false (ap (λ (x : Best). x.found) e))
best_tells (Some a) (Some b) e = ap Some (λ i. record { key = (e i).key; at = (e i).at })
