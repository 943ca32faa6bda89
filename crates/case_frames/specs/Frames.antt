-- Parts behind their sizes. A part that is not whole ends where the input does.
use Rattle.std.specs.Prelude.{ℕ, ◌+◌, ◌-◌, ◌*◌, ◌≡◌, ◌≤◌, ◌<◌, min, List, length, get_or, take, drop, Option, None, Some}
use denote.Ref.{Bor}

-- where the part at a place ends: behind two bytes of size and as many bytes as they spell
abbrev pub end_of : List ℕ → ℕ → ℕ
end_of s at = min (length s) (at + (2 + get_or s at 0 + 256 * get_or s (at + 1) 0))

-- the bytes of that part, without the two of its size
abbrev pub part_of : List ℕ → ℕ → List ℕ
part_of s at = take (end_of s at - (at + 2)) (drop (at + 2) s)

-- what is handed out at a place, and the input and the place after it: the part there, as long as the input goes on
abbrev pub GivesPart : List ℕ → ℕ → Option (Bor (List ℕ)) → List ℕ → ℕ → Type 0
GivesPart s at None t to = (length s ≤ at) × (t ≡ s) × (to ≡ at)
GivesPart s at (Some part) t to = (at < length s) × (part.now ≡ part_of s at) × (t ≡ s) × (to ≡ end_of s at)
