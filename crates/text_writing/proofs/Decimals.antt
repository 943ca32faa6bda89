-- The digits of a number, one by one: a number of one digit is its glyph, and any other the digits of a tenth of it and then its last. By induction on tenths
-- they are digits, spell the number, begin with no 0 before another, and are no more than they have to be.
use Prim.Native.Nat.{ℕ, zero, suc, ◌+◌, ◌-◌, ◌*◌, ◌/◌, ◌%◌, ◌^◌, ◌≤◌, ◌<◌}
use mathlib.Core.Path.{◌≡◌, refl}
use mathlib.Core.Bool.{Bool, true, false, cond}
use mathlib.Core.List.{List, [], ◌∷◌, ◌++◌}
use native.Mathlib.Nat.{not-suc-le-zero, lt-suc_self, pow-suc}
use native.Mathlib.Decide.{dec_lt}
use native.Mathlib.Omega.{arith}
use lib.Dec.{ltb}
use lib.ListN.{length, get_or, length-append, get_or-append}
use borrow.Author.Tests.{lt-ltb, le-ltb, ltb-false}
use Rattle.text_writing.specs.Decimal.{glyph, behind, digits_in, decimal, read_on, AreDigits}

-- with enough digits the limit does not matter
digits_same : (f g n : ℕ) → n < f → n < g → digits_in f n ≡ digits_in g n
unfolding digits_in
digits_same zero g n p q = absurd (not-suc-le-zero p)
digits_same (suc f) zero n p q = absurd (not-suc-le-zero q)
digits_same (suc f) (suc g) n p q = go (ltb n 10) refl (λ h. digits_same f g (n / 10) (omega arith) (omega arith))
  where
    go : (b : Bool) → ltb n 10 ≡ b → (10 ≤ n → digits_in f (n / 10) ≡ digits_in g (n / 10))
        → cond b (glyph n ∷ []) (behind (digits_in f (n / 10)) (n % 10)) ≡ cond b (glyph n ∷ []) (behind (digits_in g (n / 10)) (n % 10))
    go true e k = refl
    go false e k = rw (k (ltb-false n 10 e))

pub decimal_one : (n : ℕ) → n < 10 → decimal n ≡ glyph n ∷ []
unfolding decimal digits_in
decimal_one n h = rw (lt-ltb n 10 h)

pub decimal-more : (n : ℕ) → 10 ≤ n → decimal n ≡ decimal (n / 10) ++ (glyph (n % 10) ∷ [])
unfolding decimal digits_in
decimal-more n h =
    rw (le-ltb n 10 h, digits_same n (suc (n / 10)) (n / 10) (omega arith) (omega arith))

-- induction on tenths
by_tenths : (P : ℕ → Type 0) → ((n : ℕ) → n < 10 → P n) → ((n : ℕ) → 10 ≤ n → P (n / 10) → P n) → (n : ℕ) → P n
by_tenths P one more n = go (suc n) n (lt-suc_self n)
  where
    pick : (n : ℕ) → Dec (n < 10) → (10 ≤ n → P (n / 10)) → P n
    pick n (yes h) k = one n h
    pick n (no h) k = more n (omega arith) (k (omega arith))

    go : (f n : ℕ) → n < f → P n
    go zero n h = absurd (not-suc-le-zero h)
    go (suc f) n h = pick n (dec_lt n 10) (λ q. go f (n / 10) (omega arith))

-- ---- they are digits

digits_more : (a : List ℕ) (d : ℕ) → AreDigits a → 48 ≤ d → d ≤ 57 → AreDigits (a ++ (d ∷ []))
unfolding AreDigits
digits_more [] d p l m = ((l, m), tt)
digits_more (x ∷ a) d p l m = (p.0, digits_more a d p.1 l m)

pub decimal_digits : (n : ℕ) → AreDigits (decimal n)
unfolding AreDigits
decimal_digits =
    by_tenths (λ (n : ℕ). AreDigits (decimal n))
    (λ n h. rw (decimal_one n h) ((omega arith, omega arith), tt))
    (λ n h p. rw (decimal-more n h) (digits_more (decimal (n / 10)) (glyph (n % 10)) p (omega arith) (omega arith)))

-- ---- they spell the number

read_more : (v : ℕ) (a : List ℕ) (d : ℕ) → read_on v (a ++ (d ∷ [])) ≡ read_on v a * 10 + (d - 48)
unfolding read_on
read_more v [] d = refl
read_more v (x ∷ a) d = read_more (v * 10 + (x - 48)) a d

pub decimal_value : (n : ℕ) → read_on 0 (decimal n) ≡ n
unfolding read_on
decimal_value =
    by_tenths (λ (n : ℕ). read_on 0 (decimal n) ≡ n)
    (λ n h. rw (decimal_one n h) (omega arith))
    (λ n h p. rw (decimal-more n h, read_more 0 (decimal (n / 10)) (glyph (n % 10)), p) (omega arith))

-- ---- no 0 before another digit

decimal_some : (n : ℕ) → 1 ≤ length (decimal n)
decimal_some =
    by_tenths (λ (n : ℕ). 1 ≤ length (decimal n))
    (λ n h. rw (decimal_one n h) (omega arith))
    (λ n h p. rw (decimal-more n h, length-append (decimal (n / 10)) (glyph (n % 10) ∷ [])) (omega arith))

pub decimal_first : (n : ℕ) → 1 ≤ n → 49 ≤ get_or (decimal n) 0 0
decimal_first =
    by_tenths (λ (n : ℕ). 1 ≤ n → 49 ≤ get_or (decimal n) 0 0)
    (λ n h q. rw (decimal_one n h) (omega arith))
    (λ n h p q.
    rw (decimal-more n h, get_or-append (decimal (n / 10)) (glyph (n % 10) ∷ []) 0 0 (decimal_some (n / 10))) (p (omega arith)))

-- ---- a number below 10 ^ k has at most k

pub decimal_short : (k n : ℕ) → n < 10 ^ suc k → length (decimal n) ≤ suc k
decimal_short zero n h =
    let e : n < 10 = h in
    rw (decimal_one n e) (omega arith)
decimal_short (suc k) n h = go (dec_lt n 10) (λ q. decimal_short k (n / 10) q)
  where
    go : Dec (n < 10) → (n / 10 < 10 ^ suc k → length (decimal (n / 10)) ≤ suc k) → length (decimal n) ≤ suc (suc k)
    go (yes q) r = rw (decimal_one n q) (omega arith)
    go (no q) r =
        let e : n < 10 ^ suc k * 10 = rw (pow-suc 10 (suc k)) at h in
        let f : n / 10 < 10 ^ suc k = omega arith in
        rw (decimal-more n (omega arith), length-append (decimal (n / 10)) (glyph (n % 10) ∷ [])) (omega (arith, r f))
