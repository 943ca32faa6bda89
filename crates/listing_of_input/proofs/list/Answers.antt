-- `list` meets its contract: there is room for every listing in the local bytes, so what is copied is the whole text.
use Prim.Native.Nat.{ℕ, ◌≤◌, ◌<◌}
use mathlib.Core.Path.{◌≡◌, ap, sym, ◌∙◌}
use mathlib.Core.List.{List, ◌++◌}
use native.Mathlib.Omega.{arith}
use borrow.Author.Tests.{lt-ltb, le-ltb}
use lib.ListN.{length, take, drop, replicate, length-append, length-replicate}
use lib.Seq.{take_at, length-take-le}
use Rattle.text_writing.specs.Sheet.{Sheet, sheet, puts}
use Rattle.text_writing.proofs.Sheets.{puts_fit}
use Rattle.listing_of_input.specs.Answer.{Text}
use Rattle.listing_of_input.specs.Lent.{list_answer, listed_into}
use Rattle.listing_text.specs.Listing.{listing_of}
use Rattle.listing_text.proofs.Fits.{listing_fits}
use Rattle.listing_of_input.proofs.list.Goals as goal

-- the listing in bytes that have room for it
record Made (s t : List ℕ) (end : ℕ) : Type 0 where
  size : end ≡ length (listing_of s)
  within : end ≤ length t
  front : take end t ≡ listing_of s

made : (s t : List ℕ) (end : ℕ) → sheet t end ≡ puts (sheet (replicate 131072 0) 0) (listing_of s) → Made s t end
made s t end p =
    let f = listing_fits s in
    let h = length-replicate {A = ℕ} 131072 0 in
    let e = p ∙ puts_fit (replicate 131072 0) (listing_of s) (omega (arith, f, h)) in
    let z : end ≡ length (listing_of s) = ap (λ (x : Sheet). x.place) e in
    let b : t ≡ listing_of s ++ drop (length (listing_of s)) (replicate 131072 0) = ap (λ (x : Sheet). x.bytes) e in
    record { size = z; within = rw b (simp length-append (omega arith)); front = rw b (take_at _ _ end (sym z)) }

pub returns-then-out-end : goal.returns-then-out-end
unfolding list_answer listed_into
returns-then-out-end c =
    let a = c.args in
    let m = made a.input.now _ _ c.written-end.ensures in
    let h : length a.out.now < length (listing_of a.input.now) = omega (arith, m.size, c.if-out-end.true) in
    (rw (lt-ltb _ _ h), rw (lt-ltb _ _ h))

pub slice_bounds-text-end : goal.slice_bounds-text-end
slice_bounds-text-end c = (made c.args.input.now _ _ c.written-end.ensures).within

pub slice_bounds-copy_from_slice-end-3 : goal.slice_bounds-copy_from_slice-end-3
slice_bounds-copy_from_slice-end-3 c = sym (length-take-le _ _ (made c.args.input.now _ _ c.written-end.ensures).within)

pub copy_from_slice-requires : goal.copy_from_slice-requires
copy_from_slice-requires c =
    length-take-le _ _ c.if-out-end.false ∙ sym (length-take-le _ _ (made c.args.input.now _ _ c.written-end.ensures).within)

pub returns : goal.returns
unfolding list_answer listed_into
returns c =
    let a = c.args in
    let m = made a.input.now _ _ c.written-end.ensures in
    let h : length (listing_of a.input.now) ≤ length a.out.now = omega (arith, m.size, c.if-out-end.false) in
    let e = c.copy_from_slice.ensures.after in
    (rw (le-ltb _ _ h) (ap Text m.size), rw (le-ltb _ _ h, e, m.front, m.size))
