-- What a part of a slice is in terms of take and drop: `&s[at..]` is lent as the elements from `at` on, as many as there are.
use Prim.Native.Nat.{ℕ, suc, ◌+◌, ◌-◌, ◌≤◌}
use mathlib.Core.Path.{◌≡◌}
use mathlib.Core.List.{List, [], ◌∷◌}
use native.Mathlib.Nat.{le_refl}
use native.Mathlib.Numerals.{add-one}
use native.Mathlib.Omega.{arith}
use lib.ListN.{length, get_or, take, drop, length-drop, drop_of_length-le}
use lib.Seq.{take_all, drop-cons}

module _ {A : Type 0} where
  pub tail_is : (s : List A) (at : ℕ) → take (length s - at) (drop at s) ≡ drop at s
  tail_is s at = take_all (length s - at) (drop at s) (rw length-drop (le_refl _))

  -- nothing stands behind it
  pub tail_last : (s : List A) (at : ℕ) → drop (length s - at) (drop at s) ≡ []
  tail_last s at = drop_of_length-le (drop at s) {i = length s - at} (rw length-drop (le_refl _))

  -- two elements in a row
  pub two_at : (s : List A) (at : ℕ) (d : A) → at + 2 ≤ length s → take 2 (drop at s) ≡ get_or s at d ∷ get_or s (at + 1) d ∷ []
  two_at s at d h =
      rw (add-one at, drop-cons s at d (omega arith), drop-cons s (suc at) d (omega arith))
