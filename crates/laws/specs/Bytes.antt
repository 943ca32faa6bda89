-- What a list of bytes is.
use Rattle.std.specs.Prelude.{ℕ, ◌<◌, List, get_or}

-- every number of the list is a byte
abbrev pub AreBytes : List ℕ → Type 0
AreBytes s = (i : ℕ) → get_or s i 0 < 256
