-- `lines` meets its contract: the tests of the listing, and the parts of the input that hold the table and the events.
use Prim.Native.Nat.{ℕ}
use mathlib.Core.Path.{◌≡◌, refl}
use mathlib.Core.Bool.{Bool, true, false, cond}
use borrow.Author.Tests.{lt-ltb, le-ltb}
use Rattle.std.specs.Prelude.{Some, None}
use Rattle.laws.proofs.Tests.{impossible}
use Rattle.listing_text.specs.Listing.{listing_of}
use Rattle.listing_text.proofs.Input.{table_part, events_part}
use Rattle.listing_of_input.proofs.lines.Goals as goal

-- what is found says whether the table is there
found_by : (b : Bool) (n from : ℕ) → Some from ≡ cond b (Some n) None → (b ≡ true) × (from ≡ n)
found_by true n from e = (refl, cc)
found_by false n from e = impossible cc

missing_by : (b : Bool) (n : ℕ) → None ≡ cond b (Some n) None → b ≡ false
missing_by true n e = impossible cc
missing_by false n e = refl

pub returns-then-input-gt-MOST_BYTES : goal.returns-then-input-gt-MOST_BYTES
unfolding listing_of
returns-then-input-gt-MOST_BYTES c =
    rw (lt-ltb _ _ c.if-input-gt-MOST_BYTES.true) c.too_long.ensures

pub returns-in-None : goal.returns-in-None
unfolding listing_of
returns-in-None c =
    rw (le-ltb _ _ c.if-input-gt-MOST_BYTES.false, missing_by _ _ c.in-None.ensures) (rw c.number.ensures at c.refused.ensures)

pub returns-in-Some : goal.returns-in-Some
unfolding listing_of
returns-in-Some c =
    let s = c.args.input.now in
    let f = found_by _ _ _ c.in-Some.ensures in
    let e = c.of_table.ensures in
    rw (le-ltb _ _ c.if-input-gt-MOST_BYTES.false, f.0) (rw (f.1, table_part s f.0, events_part s f.0) at e)
