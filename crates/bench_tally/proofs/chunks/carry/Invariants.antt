use mathlib.Core.Path.{◌≡◌}
use Rattle.std.specs.Prelude.{Ok}
use Rattle.tally_histories.specs.Answer.{as_reported}
use Rattle.bench_tally.specs.Chunks.{chunks_reported}
use Rattle.bench_tally.proofs.chunks.carry.Given as goal

abbrev pub invariant-loop-i : goal.invariant-loop-i
invariant-loop-i l = as_reported l.fn.state l.fn.tallies (Ok l.done) ≡ chunks_reported l.fn.state l.fn.tallies l.log l.i
