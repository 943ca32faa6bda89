-- Rules, "Window", over the outcomes of a task's closed jobs: newest first, true for a met job.
use Rattle.std.specs.Prelude.{ℕ, suc, Bool, true, false, List, [], ◌∷◌, take}

abbrev pub mets : List Bool → ℕ
mets [] = 0
mets (true ∷ os) = suc (mets os)
mets (false ∷ os) = mets os

abbrev pub misses : List Bool → ℕ
misses [] = 0
misses (true ∷ os) = misses os
misses (false ∷ os) = suc (misses os)

-- the window number: the misses among the last k closed jobs, or among all of them if fewer have closed
abbrev pub last_misses : ℕ → List Bool → ℕ
last_misses k os = misses (take k os)
