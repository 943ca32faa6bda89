-- Any row of outcomes in the order of the log is a row newest first with as many misses: turning a list round keeps its count.
use Prim.Native.Nat.{◌+◌, ◌≤◌}
use mathlib.Core.Path.{◌≡◌, refl, sym, ap, ◌∙◌}
use mathlib.Core.Bool.{Bool, true, false}
use mathlib.Core.List.{List, [], ◌∷◌, ◌++◌, reverse, reverse-cons, reverse-append, reverse-reverse}
use native.Mathlib.Omega.{arith}
use lib.ListN.{length, length-reverse}
use lib.Seq.{take-append_seam, drop-append_seam}
use Rattle.table_rules.specs.declared.Task.{Task}
use Rattle.run_windows.specs.Outcomes.{misses}
use Rattle.run_windows.specs.Bound.{Within}
use Rattle.guarantee_of_logs.specs.Keeps.{EachRow}

misses_append : (a b : List Bool) → misses (a ++ b) ≡ misses a + misses b
misses_append [] b = omega arith
misses_append (true ∷ a) b = misses_append a b
misses_append (false ∷ a) b = omega (arith, misses_append a b)

misses_reverse : (os : List Bool) → misses (reverse os) ≡ misses os
misses_reverse [] = refl
misses_reverse (true ∷ os) = rw (reverse-cons true os, misses_append (reverse os) (true ∷ [])) (omega (arith, misses_reverse os))
misses_reverse (false ∷ os) = rw (reverse-cons false os, misses_append (reverse os) (false ∷ [])) (omega (arith, misses_reverse os))

turned : (os older row newer : List Bool) → reverse os ≡ older ++ row ++ newer → os ≡ reverse newer ++ (reverse row ++ reverse older)
turned os older row newer q =
    sym (reverse-reverse os) ∙ ap reverse q ∙ reverse-append (older ++ row) newer ∙ ap (λ (l : List Bool). reverse newer ++ l) (reverse-append older row)

pub rows_within : (task : Task) (os : List Bool) → Within task os → EachRow task (reverse os)
rows_within task os w older row newer q l =
    let k : length (reverse row) ≤ task.k = rw (length-reverse row) l in
    let a = drop-append_seam (reverse newer) (reverse row ++ reverse older) in
    let b = take-append_seam (reverse row) (reverse older) in
    let h = rw (turned os older row newer q, a, b) at (w (length (reverse newer)) (length (reverse row)) k) in
    rw (misses_reverse row) at h
