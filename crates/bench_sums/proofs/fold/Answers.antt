-- `fold` meets its contract: remainders taken before keep the sum within 64 bits and change nothing.
use Rattle.bench_sums.proofs.Laws.{same_fold}
use Rattle.bench_sums.proofs.fold.Goals as goal

pub returns : goal.returns
returns c = same_fold c.args.sum c.args.code
