-- A response within D falls into one of the 128 cells, and a longer one into no lower cell: by what a quotient is.
use Prim.Native.Nat.{ℕ, ◌+◌, ◌*◌, ◌≤◌, ◌<◌}
use native.Mathlib.Nat.{div-lt_iff_lt-mul}
use native.Mathlib.Omega.{arith}
use Rattle.laws.proofs.Numbers.{div_mono}
use Rattle.tally_rules.specs.Tally.{cell_count, cell_of}

pub cell_below : (d r : ℕ) → r ≤ d → cell_of d r < cell_count
cell_below d r h = (div-lt_iff_lt-mul {k = d + 1} {x = cell_count * r} {y = cell_count} (omega arith)).1 (omega arith)

pub cell_mono : (d r q : ℕ) → r ≤ q → cell_of d r ≤ cell_of d q
cell_mono d r q h = div_mono (cell_count * r) (cell_count * q) (d + 1) (omega arith) (omega arith)
