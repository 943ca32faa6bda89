-- Little-endian numbers, over the width: the first byte is the least.
use Rattle.std.specs.Prelude.{ℕ, ◌+◌, ◌*◌, List, [], ◌∷◌}

-- the number that bytes spell
unfoldable pub number : List ℕ → ℕ
number [] = 0
number (b ∷ s) = b + 256 * number s
