-- A lent slice and the place at which the next byte goes.
use Rattle.std.specs.Prelude.{ℕ, ◌+◌, cond, List, [], ◌∷◌, ltb, length, set}

pub record Sheet : Type 0 where
  pub bytes : List ℕ
  pub place : ℕ

abbrev pub sheet : List ℕ → ℕ → Sheet
sheet s at = record { bytes = s; place = at }

-- a byte at the place; one that does not fit is left out, and the place one past the end says so
unfoldable pub put : Sheet → ℕ → Sheet
put s b =
    cond (ltb s.place (length s.bytes))
    (sheet (set s.bytes s.place b) (s.place + 1))
    (sheet s.bytes (length s.bytes + 1))

-- a text, byte by byte
unfoldable pub puts : Sheet → List ℕ → Sheet
puts s [] = s
puts s (b ∷ t) = puts (put s b) t
