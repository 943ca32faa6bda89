use Prim.Native.Nat.{ℕ}
use mathlib.Core.Path.{◌≡◌}
use lib.ListN.{replicate}
use Rattle.laws.specs.Stores.{filled}
use Rattle.tally_rules.specs.Tally.{fresh_tally}
use Rattle.tally_histories.specs.Sound.{deadline_at}
use Rattle.tally_runs.proofs.fresh.fresh_of.Given as goal

abbrev pub invariant-loop-i : goal.invariant-loop-i
invariant-loop-i l = l.row ≡ filled (λ (j : ℕ). fresh_tally (deadline_at l.state j)) l.i (replicate 16 (fresh_tally 0))
