-- `chunk` meets its contract: all that is left, or a full chunk of it.
use Prim.Native.Nat.{◌*◌, ◌-◌}
use mathlib.Core.Path.{ap, ◌∙◌}
use lib.ListN.{length, take, drop}
use Rattle.laws.proofs.Parts.{tail_is}
use Rattle.bench_tally.proofs.Steps.{front}
use Rattle.bench_tally.proofs.chunks.chunk.Goals as goal

pub returns : goal.returns
returns c =
    let s = c.args.log.now in
    let n = 65520 * c.args.i in
    let rest = take (length s - n) (drop n s) in
    ap (λ k. take k rest) c.min.ensures ∙ front rest 65520 ∙ ap (take 65520) (tail_is s n)
