-- Texts put one behind another are one text; a text that fits stands at the front, with the bytes past it as they were, and of one that does not as much
-- stands there as fits, with the place one past the end. By induction on the text.
use Prim.Native.Nat.{ℕ, suc, ◌+◌, ◌-◌, ◌≤◌, ◌<◌}
use native.Mathlib.Numerals.{add-one}
use native.Mathlib.Omega.{arith}
use borrow.Author.Tests.{lt-ltb, le-ltb}
use mathlib.Core.Path.{◌≡◌, refl, sym, ap, ◌∙◌}
use mathlib.Core.List.{List, [], ◌∷◌, ◌++◌, append-nil}
use mathlib.Core.Logic.{◌↔◌}
use native.Mathlib.Decide.{dec_le}
use lib.ListN.{length, get_or, take, drop, set, length-set, length-drop, take-append-drop}
use lib.Seq.{sets, sets-eq, length-sets, take-suc, length-take-le, drop-length}
use Rattle.text_writing.specs.Sheet.{Sheet, sheet, put, puts}

pub puts_on : (s : Sheet) (a b : List ℕ) → puts (puts s a) b ≡ puts s (a ++ b)
unfolding puts
puts_on s [] b = refl
puts_on s (x ∷ a) b = puts_on (put s x) a b

-- one text, and then what follows it
pub and_then : (s : Sheet) {t u : Sheet} (a b : List ℕ) → t ≡ puts s a → u ≡ puts t b → u ≡ puts s (a ++ b)
and_then s {t} {u} a b p q = q ∙ ap (λ (x : Sheet). puts x b) p ∙ puts_on s a b

pub and_byte : (s : Sheet) {t u : Sheet} (a : List ℕ) (b : ℕ) → t ≡ puts s a → u ≡ put t b → u ≡ puts s (a ++ (b ∷ []))
unfolding puts
and_byte s {t} {u} a b p q = and_then s a (b ∷ []) p q

pub first_byte : (s : Sheet) (b : ℕ) → put s b ≡ puts s (b ∷ [])
unfolding puts
first_byte s b = refl

-- one byte more of a text
pub next_byte : (s : Sheet) {t u : Sheet} (text : List ℕ) (i : ℕ) → i < length text → t ≡ puts s (take i text) → u ≡ put t (get_or text i 0)
    → u ≡ puts s (take (suc i) text)
next_byte s {t} {u} text i h p q =
    and_byte s (take i text) (get_or text i 0) p q ∙ ap (puts s) (sym (take-suc text i 0 h))

-- ---- a text that fits

stored : (s : List ℕ) (at : ℕ) (text : List ℕ) → at + length text ≤ length s → puts (sheet s at) text ≡ sheet (sets s at text) (at + length text)
unfolding puts put
stored s at [] h = ap (sheet s) (omega arith)
stored s at (b ∷ t) h =
    let l : length (set s at b) ≡ length s = length-set s at b in
    rw (lt-ltb at (length s) (omega arith), add-one at)
    (stored (set s at b) (suc at) t (omega arith) ∙ ap (sheet (sets s at (b ∷ t))) (omega arith))

-- it stands at the front, the place is behind it, and the bytes past it stay
pub puts_fit : (s text : List ℕ) → length text ≤ length s → puts (sheet s 0) text ≡ sheet (text ++ drop (length text) s) (length text)
puts_fit s text h =
    let z : 0 + length text ≡ length text = omega arith in
    stored s 0 text (omega arith) ∙ rw (sets-eq text s 0 (omega arith), z)

-- ---- a text that does not fit

-- one past the end the place stays, and nothing more is stored
pub past_stays : (s text : List ℕ) → puts (sheet s (length s + 1)) text ≡ sheet s (length s + 1)
unfolding puts put
past_stays s [] = refl
past_stays s (b ∷ t) = rw (le-ltb (length s + 1) (length s) (omega arith)) (past_stays s t)

full : (s text : List ℕ) (at : ℕ) → at ≡ length s → 1 ≤ length text → puts (sheet s at) text ≡ sheet s (length s + 1)
unfolding puts put
full s [] at e h = absurd (omega arith)
full s (b ∷ t) at e h = rw (le-ltb at (length s) (omega arith)) (past_stays s t)

-- as much of it as fits is put behind what stands before the place, and the place is one past the end
pub puts_cut : (s : List ℕ) (at : ℕ) (text : List ℕ) → at ≤ length s → length s < at + length text
    → puts (sheet s at) text ≡ sheet (take at s ++ take (length s - at) text) (length s + 1)
puts_cut s at text p h =
    let n = length s - at in
    let a = take n text in
    let l : length a ≡ n = length-take-le n text (omega arith) in
    let q : at + length a ≡ length s = omega arith in
    let d : length (drop n text) ≡ length text - n = length-drop n text in
    let k : length (sets s at a) ≡ length s = length-sets s at a in
    let e : sets s at a ≡ take at s ++ a = sets-eq a s at (omega arith) ∙ rw (q, drop-length s, append-nil (take at s ++ a)) in
    ap (puts (sheet s at)) (sym (take-append-drop n text)) ∙ sym (puts_on (sheet s at) a (drop n text))
    ∙ ap (λ (x : Sheet). puts x (drop n text)) (stored s at a (omega arith))
    ∙ full (sets s at a) (drop n text) (at + length a) (omega arith) (omega arith)
    ∙ rw (k, e)

-- the place is within the slice exactly where all of the text was put
pub puts_within : (s : List ℕ) (at : ℕ) (text : List ℕ) → at ≤ length s → ((puts (sheet s at) text).place ≤ length s) ↔ (at + length text ≤ length s)
puts_within s at text p = go (dec_le (at + length text) (length s))
  where
    go : Dec (at + length text ≤ length s) → ((puts (sheet s at) text).place ≤ length s) ↔ (at + length text ≤ length s)
    go (yes h) = (λ r. h, λ r. rw (stored s at text h) h)
    go (no h) =
        let e : (puts (sheet s at) text).place ≡ length s + 1 = ap (λ (x : Sheet). x.place) (puts_cut s at text p (omega arith)) in
        (λ r. absurd (omega arith), λ r. absurd (h r))
