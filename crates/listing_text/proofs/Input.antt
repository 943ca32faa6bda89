-- Where the table and the events stand in the input: by the test that the table is there.
use Prim.Native.Nat.{ℕ, ◌+◌, ◌-◌, ◌*◌, ◌≤◌}
use mathlib.Core.Path.{◌≡◌, refl, ap, ◌∙◌}
use mathlib.Core.Bool.{Bool, true, false, cond}
use mathlib.Core.List.{List, [], ◌∷◌}
use native.Mathlib.Omega.{arith}
use borrow.Author.Tests.{leb-true}
use lib.Dec.{leb}
use lib.ListN.{length, take, drop}
use Rattle.laws.proofs.Parts.{tail_is}
use Rattle.laws.proofs.Tests.{each_holds}
use Rattle.listing_text.specs.Listing.{count_byte, table_there, events_from, table_bytes, event_bytes}

module _ (s : List ℕ) where
  abbrev n : ℕ
  n = count_byte s

  pub from_none : events_from s ≡ 0 → table_there s ≡ false
  from_none e = go (table_there s) e
    where
      go : (b : Bool) → cond b (1 + 16 * n) 0 ≡ 0 → b ≡ false
      go true q = absurd (omega (arith, q))
      go false q = refl

  pub from_some : (events_from s ≡ 0 → ⊥) → table_there s ≡ true
  from_some k = go (table_there s) k
    where
      go : (b : Bool) → (cond b (1 + 16 * n) 0 ≡ 0 → ⊥) → b ≡ true
      go true q = refl
      go false q = absurd (q refl)

  -- where the table is there
  module _ (there : table_there s ≡ true) where
    pub from_is : events_from s ≡ 1 + 16 * n
    from_is = rw there

    pub from_within : events_from s ≤ length s
    from_within =
        let h = each_holds (leb 1 n ∷ leb n 16 ∷ leb (1 + 16 * n) (length s) ∷ []) there in
        rw from_is (leb-true _ _ (h 2))

    -- the two parts of the input that are lent
    pub table_part : take (events_from s - 1) (drop 1 s) ≡ table_bytes s
    table_part =
        let e : events_from s - 1 ≡ 16 * n = omega (arith, from_is) in
        rw e

    pub events_part : take (length s - events_from s) (drop (events_from s) s) ≡ event_bytes s
    events_part = tail_is s (events_from s) ∙ ap (λ (x : ℕ). drop x s) from_is
