-- `fold_record` meets its contract: five folds, one after the other.
use Rattle.bench_sums.proofs.fold_record.Goals as goal

pub returns : goal.returns
returns c =
    rw (c.fold.ensures, c.fold-marks.ensures, c.fold-missed.ensures, c.fold-met.ensures, c.fold-released.ensures)
