-- Step 1 over a lent row leaves each record as it was or closed, as its own deadline says: a record that is not yet passed is the one that was lent.
use Prim.Native.Nat.{ℕ, ◌+◌}
use mathlib.Core.Path.{◌≡◌, refl, sym, ap, ◌∙◌}
use mathlib.Core.List.{List}
use native.Mathlib.Nat.{le_refl}
use native.Mathlib.Numerals.{add-one}
use lib.ListN.{length, get_or, set}
use lib.Seq.{ext_get_or}
use Rattle.laws.specs.Stores.{filled}
use Rattle.laws.proofs.Stores.{length_filled, filled_below, filled_past}
use Rattle.task_records.specs.declared.Record.{Record}
use Rattle.task_steps.specs.Opening.{expired, no_record}
use Rattle.lent_records.specs.Expiry.{expired_row, ExpiredBy}

module _ (l : List Record) (t : ℕ) where
  abbrev pub one : ℕ → Record
  one i = expired (get_or l i no_record) t

  pub none_passed : l ≡ filled one 0 l
  unfolding filled
  none_passed = refl

  -- one record more, with the code's i + 1
  pub one_passed : (i : ℕ) (m : List Record) → m ≡ filled one i l → (r : Record) → r ≡ expired (get_or m i no_record) t
      → set m i r ≡ filled one (i + 1) l
  unfolding filled
  one_passed i m e r d =
      let there : get_or m i no_record ≡ get_or l i no_record =
      ap (λ (x : List Record). get_or x i no_record) e ∙ filled_past one l no_record i i (le_refl i) in
      let here : set m i r ≡ set (filled one i l) i (one i) =
      ap (set m i) (d ∙ ap (λ (x : Record). expired x t) there) ∙ ap (λ (x : List Record). set x i (one i)) e in
      here ∙ ap (λ (k : ℕ). filled one k l) (sym (add-one i))

  pub row_expired : ExpiredBy t l (expired_row l t)
  row_expired = record { long = length_filled one l no_record _; each = λ i h. filled_below one l no_record _ i (le_refl (length l)) h }

  -- no other row is
  pub row_exactly : (m : List Record) → ExpiredBy t l m → m ≡ expired_row l t
  row_exactly m e =
      ext_get_or no_record m (expired_row l t) (e.long ∙ sym row_expired.long)
      (λ i h. e.each i (rw e.long at h) ∙ sym (row_expired.each i (rw e.long at h)))
