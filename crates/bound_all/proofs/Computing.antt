-- One name for every definition by which all bounds are computed: a proof that unfolds it unfolds them all.
use Rattle.laws.specs.Stores.{filled}
use Rattle.bound_one.proofs.Computing.{bound_computes}
use Rattle.bound_all.specs.Asked.{all_answer, all_cells}

-- `all_answer` and `all_cells` of a table that is written out
unfoldable pub bounds_compute : Unit {0}
unfolding filled bound_computes
bounds_compute = tt
