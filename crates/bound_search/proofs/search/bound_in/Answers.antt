-- `search::bound_in` meets its contract: the load asks for as much as the table, so both have the same first fit.
use mathlib.Core.Path.{◌∙◌}
use Rattle.bound_demand.specs.Demand.{demand}
use Rattle.bound_demand.specs.Load.{load_demand}
use Rattle.bound_demand.specs.Above.{task_at}
use Rattle.bound_search.proofs.Fits.{fit_same}
use Rattle.bound_demand.proofs.Gathering.{LoadOf, load_is, load_same}
use Rattle.bound_demand.proofs.Obeyed.{deadline_most}
use Rattle.bound_search.proofs.search.bound_in.Goals as goal

pub search-requires : goal.search-requires
search-requires c =
    let t = c.args.table in
    let k = c.args.k in
    (rw c.load_of.ensures (load_is t k c.requires.0 c.requires.1).ready, deadline_most t c.requires.0 k c.requires.1)

pub returns : goal.returns
returns c =
    let t = c.args.table in
    let k = c.args.k in
    let l = c.load_of in
    let y : LoadOf t k l.result = rw l.ensures (load_is t k c.requires.0 c.requires.1) in
    c.search.ensures ∙ fit_same (load_demand l.result) (demand t k) (load_same t k l.result y) (task_at t k).d
