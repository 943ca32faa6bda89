-- A rule that holds of the computed answer and of no other tells exactly which answer that is: from these two facts alone.
use mathlib.Core.Path.{◌≡◌, sym, subst, ◌∙◌}
use mathlib.Core.Logic.{◌↔◌}

module _ {A : Type 0} (Rule : A → Type 0) {x : A} (has : Rule x) (only : (y : A) → Rule y → y ≡ x) where
  pub exactly : (y : A) → x ≡ y ↔ Rule y
  exactly y = (λ q. subst Rule q has, λ r. sym (only y r))

  pub one_answer : {y z : A} → Rule y → Rule z → y ≡ z
  one_answer {y} {z} p q = only y p ∙ sym (only z q)
