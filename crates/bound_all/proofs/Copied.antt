-- A front that is copied over is a front that is filled: a filled row is its front and its rest, and both are known.
use Prim.Native.Nat.{ℕ, ◌≤◌, ◌<◌}
use mathlib.Core.Path.{◌≡◌, sym, ap, ◌∙◌}
use mathlib.Core.List.{List, ◌++◌}
use native.Mathlib.Nat.{le_refl}
use lib.ListN.{length, get_or, take, drop}
use Rattle.std.proofs.lemmas.List.{take-append-drop, get_or-take, length-take-le}
use Rattle.laws.specs.Stores.{filled}
pub use Rattle.table_rules.proofs.Faults.{found_at}
pub use Rattle.bound_demand.proofs.Obeyed.{few}
use Rattle.laws.proofs.Stores.{filled_same, filled_whole, take_filled, drop_filled}

-- for the check, which takes no name with a dash
pub front_length : (n : ℕ) (s : List ℕ) → n ≤ length s → length (take n s) ≡ n
front_length n s h = length-take-le n s h

module _ (f : ℕ → ℕ) (s cells : List ℕ) (n : ℕ) (p : n ≤ length s) (q : n ≤ length cells) (h : (i : ℕ) → i < n → get_or cells i 0 ≡ f i) where
  front : filled f n (take n s) ≡ take n cells
  front =
      let c = take n cells in
      let e : length c ≡ n = length-take-le n cells q in
      let whole : filled (λ i. get_or c i 0) n (take n s) ≡ c =
      rw e at (filled_whole c (take n s) 0 (e ∙ sym (length-take-le n s p))) in
      filled_same f (λ i. get_or c i 0) (take n s) n (λ i r. sym (get_or-take n cells i 0 r ∙ h i r)) ∙ whole

  pub copied : take n cells ++ drop n s ≡ filled f n s
  copied =
      ap (λ (x : List ℕ). x ++ drop n s) (sym front)
      ∙ ap (λ (x : List ℕ). x ++ drop n s) (sym (take_filled f s n n))
      ∙ ap (λ (x : List ℕ). take n (filled f n s) ++ x) (sym (drop_filled f s n n (le_refl n)))
      ∙ take-append-drop n (filled f n s)
