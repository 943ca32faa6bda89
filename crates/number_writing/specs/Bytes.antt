-- The bytes of a number, over the width: the first byte is the least.
use Rattle.std.specs.Prelude.{ℕ, zero, suc, ◌/◌, ◌%◌, cond, List, [], ◌∷◌, ◌++◌, leb, length, drop}

-- the n bytes that spell x
unfoldable pub bytes : ℕ → ℕ → List ℕ
bytes zero x = []
bytes (suc n) x = x % 256 ∷ bytes n (x / 256)

-- a slice once the n bytes of x were written to its front: the bytes past them stay, and a slice too short stays whole
unfoldable pub wrote : ℕ → ℕ → List ℕ → List ℕ
wrote n x s = cond (leb n (length s)) (bytes n x ++ drop n s) s
