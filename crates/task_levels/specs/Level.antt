-- Rules, "Thresholds and classes": a signed level that runs from 1 - h up to its top.
use Rattle.std.specs.Prelude.{ℕ, Bool, false, cond, ℤ, pos, negsuc, ◌+ℤ◌, ◌-ℤ◌}
use Rattle.std.specs.Int.Signed.{lt_z, le_z}

-- the larger of 0 and the level
abbrev pub class_of : ℤ → ℕ
class_of (pos n) = n
class_of (negsuc n) = 0

-- one more, not above the top
abbrev pub raised : ℤ → ℕ → ℤ
raised level top = cond (lt_z level (pos top)) (level +ℤ pos 1) (pos top)

-- 1 - h
abbrev pub lowest : ℕ → ℤ
lowest h = pos 1 -ℤ pos h

-- from 1 - h to the top
abbrev pub level_holds : ℤ → ℕ → ℕ → Bool
level_holds level h top = cond (lt_z level (lowest h)) false (le_z level (pos top))
