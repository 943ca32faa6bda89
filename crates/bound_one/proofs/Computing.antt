-- One name for every definition by which one bound is computed: a proof that unfolds it unfolds them all.
use Rattle.laws.specs.Sums.{total}
use Rattle.table_rules.specs.Rules.{task_fault}
use Rattle.table_rules.specs.Judging.{first_fault, judged}
use Rattle.bound_demand.specs.Demand.{demand}
use Rattle.bound_search.specs.Fits.{first_fit}
use Rattle.bound_one.specs.Asked.{one_answer}

-- `one_answer` of a table that is written out
unfoldable pub bound_computes : Unit {0}
unfolding one_answer judged first_fault task_fault first_fit demand total
bound_computes = tt
