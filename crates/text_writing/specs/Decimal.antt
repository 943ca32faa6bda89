-- A number as decimal digits in ASCII, the most significant first.
use Rattle.std.specs.Prelude.{ℕ, zero, suc, ◌+◌, ◌-◌, ◌*◌, ◌/◌, ◌%◌, ◌≤◌, cond, List, [], ◌∷◌, ◌++◌, ltb}

-- `0` is 48
abbrev pub glyph : ℕ → ℕ
glyph d = 48 + d

-- the digits before the last, and then the last
abbrev pub behind : List ℕ → ℕ → List ℕ
behind digits d = digits ++ (glyph d ∷ [])

-- with at most f digits
unfoldable pub digits_in : ℕ → ℕ → List ℕ
digits_in zero n = []
digits_in (suc f) n = cond (ltb n 10) (glyph n ∷ []) (behind (digits_in f (n / 10)) (n % 10))

-- a number has no more digits than one more than itself: `decimal-more` shows that the limit does not matter
unfoldable pub decimal : ℕ → List ℕ
decimal n = digits_in (suc n) n

-- digits read back: the number that they spell behind one that is read already
unfoldable pub read_on : ℕ → List ℕ → ℕ
read_on v [] = v
read_on v (d ∷ t) = read_on (v * 10 + (d - 48)) t

-- every byte is a digit
unfoldable pub AreDigits : List ℕ → Type 0
AreDigits [] = Unit
AreDigits (d ∷ t) = ((48 ≤ d) × (d ≤ 57)) × AreDigits t
