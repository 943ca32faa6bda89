-- Parts of a list of bytes are lists of bytes, since each of their elements is one of the list's.
use Prim.Native.Nat.{ℕ, zero, suc, ◌+◌}
use mathlib.Core.List.{List, [], ◌∷◌}
use native.Mathlib.Omega.{arith}
use lib.ListN.{take, drop}
use lib.Seq.{get_or-drop}
use Rattle.laws.specs.Bytes.{AreBytes}

pub drop-bytes : (n : ℕ) (s : List ℕ) → AreBytes s → AreBytes (drop n s)
drop-bytes n s f i = rw get_or-drop (f (n + i))

pub take-bytes : (n : ℕ) (s : List ℕ) → AreBytes s → AreBytes (take n s)
take-bytes zero s f i = omega arith
take-bytes (suc n) [] f i = omega arith
take-bytes (suc n) (b ∷ s) f zero = f 0
take-bytes (suc n) (b ∷ s) f (suc i) = take-bytes n s (λ j. f (suc j)) i
