-- What the contract of `list` says: the rules and what is computed agree, 14 is given exactly where the lent bytes are fewer than the text, refused bytes
-- stay, and there is a single answer. By the two cases of the one test.
use Prim.Native.Nat.{ℕ, ◌≤◌, ◌<◌}
use mathlib.Core.Path.{◌≡◌, refl, sym, ap, ◌∙◌}
use mathlib.Core.Bool.{Bool, true, false, cond}
use mathlib.Core.List.{List, [], ◌∷◌, ◌++◌}
use mathlib.Core.Logic.{◌↔◌, ◌⊎◌, inl, inr}
use native.Mathlib.Omega.{arith}
use borrow.Author.Tests.{lt-ltb, le-ltb, ltb-true, ltb-false}
use lib.Dec.{ltb}
use lib.ListN.{length, drop}
use Rattle.std.specs.Prelude.{Result, Ok, Err}
use Rattle.laws.proofs.Tests.{impossible}
use Rattle.refusals.specs.declared.Refusal.{Refusal}
use Rattle.refusals.proofs.Numbers.{number_tells}
use Rattle.listing_text.specs.Listing.{listing_of}
use Rattle.listing_text.proofs.Fits.{listing_fits}
use Rattle.listing_of_input.specs.Answer.{Listing, Text, Refused, as_listing}
use Rattle.listing_of_input.specs.Lent.{room, Lists, short, whole, list_answer, listed_into, list_said}

-- what the code answers can be told from the rules' terms for it
pub listing_tells : (a b : Result ℕ Refusal) → as_listing a ≡ as_listing b → a ≡ b
listing_tells (Ok m) (Ok n) e = ap Ok cc
listing_tells (Ok m) (Err r) e = impossible cc
listing_tells (Err r) (Ok n) e = impossible cc
listing_tells (Err r) (Err q) e = ap Err (number_tells r q cc)

-- what a rule says is the computed answer and bytes
pub lists_only : {s out t : List ℕ} {r : Listing} → Lists s out r t → (r ≡ list_answer s (length out)) × (t ≡ listed_into s out)
unfolding list_answer listed_into
lists_only (short h) = rw (lt-ltb _ _ h) (refl, refl)
lists_only (whole h) = rw (le-ltb _ _ h) (refl, refl)

-- and every input and every lent bytes have their rule
pub lists_is : (s out : List ℕ) → Lists s out (list_answer s (length out)) (listed_into s out)
unfolding list_answer listed_into
lists_is s out = go (ltb (length out) (length (listing_of s))) refl
  where
    go : (b : Bool) → ltb (length out) (length (listing_of s)) ≡ b
        → Lists s out (cond b (Refused 14) (Text (length (listing_of s)))) (cond b out (listing_of s ++ drop (length (listing_of s)) out))
    go true e = short (ltb-true _ _ e)
    go false e = whole (ltb-false _ _ e)

-- listing gives an answer and bytes exactly when their rule holds
pub lists_exactly : (s out t : List ℕ) (r : Listing) → (list_answer s (length out) ≡ r) × (listed_into s out ≡ t) ↔ Lists s out r t
lists_exactly s out t r = (λ q. rw (q.0, q.1) at (lists_is s out), λ h. (sym (lists_only h).0, sym (lists_only h).1))

-- there is one answer
pub list_single : (s out : List ℕ) {t u : List ℕ} {a b : Listing} → Lists s out a t → Lists s out b u → (a ≡ b) × (t ≡ u)
list_single s out p q = ((lists_only p).0 ∙ sym (lists_only q).0, (lists_only p).1 ∙ sym (lists_only q).1)

said_14 : {s out t : List ℕ} {r : Listing} → Lists s out r t → (list_said r).number ≡ 14 → length out < length (listing_of s)
said_14 (short h) e = h
said_14 (whole h) e = absurd (omega arith)

-- 14 exactly when the lent bytes are fewer than the text
pub list_14 : (s out : List ℕ) → (list_said (list_answer s (length out))).number ≡ 14 ↔ length out < length (listing_of s)
list_14 s out = (said_14 (lists_is s out), λ h. ap (λ (r : Listing). (list_said r).number) (sym (lists_only {s = s} {out = out} (short h)).0))

-- no other number is given
pub list_numbers : (s out : List ℕ) → ((list_said (list_answer s (length out))).number ≡ 0) ⊎ ((list_said (list_answer s (length out))).number ≡ 14)
list_numbers s out = go (lists_is s out)
  where
    go : {t : List ℕ} {r : Listing} → Lists s out r t → ((list_said r).number ≡ 0) ⊎ ((list_said r).number ≡ 14)
    go (short h) = inr refl
    go (whole h) = inl refl

said_text : {s out t : List ℕ} {r : Listing} (n : ℕ) → Lists s out r t → (list_said r).values ≡ n ∷ []
    → (length (listing_of s) ≤ length out) × (n ≡ length (listing_of s))
said_text n (short h) e = impossible cc
said_text n (whole h) e = (h, cc)

-- the text is told, with the bytes that it takes, exactly when it is not longer than what is lent
pub list_text : (s out : List ℕ) (n : ℕ)
    → (list_said (list_answer s (length out))).values ≡ n ∷ [] ↔ (length (listing_of s) ≤ length out) × (n ≡ length (listing_of s))
list_text s out n = (
  said_text n (lists_is s out),
  λ h. ap (λ (r : Listing). (list_said r).values) (sym (lists_only {s = s} {out = out} (whole h.0)).0)
      ∙ ap (λ (k : ℕ). k ∷ []) (sym h.1),
)

refused-kept : {s out t : List ℕ} {n : ℕ} → Lists s out (Refused n) t → t ≡ out
refused-kept (short h) = refl

-- refused, the lent bytes stay
pub refused_leaves : (s out : List ℕ) (n : ℕ) → list_answer s (length out) ≡ Refused n → listed_into s out ≡ out
refused_leaves s out n e = refused-kept (rw e at (lists_is s out))

-- the text is within the lent bytes
pub text_within : (s : List ℕ) (lent n : ℕ) → list_answer s lent ≡ Text n → n ≤ lent
unfolding list_answer
text_within s lent n e = go (ltb lent (length (listing_of s))) refl e
  where
    go : (b : Bool) → ltb lent (length (listing_of s)) ≡ b → cond b (Refused 14) (Text (length (listing_of s))) ≡ Text n → n ≤ lent
    go true q f = impossible cc
    go false q f = let y : length (listing_of s) ≡ n = cc in omega (arith, ltb-false lent (length (listing_of s)) q)

-- nothing is refused where the room for every listing is lent
pub room_enough : (s out : List ℕ) → room ≤ length out → list_answer s (length out) ≡ Text (length (listing_of s))
room_enough s out h = sym (lists_only {s = s} {out = out} (whole (omega (arith, listing_fits s)))).0
