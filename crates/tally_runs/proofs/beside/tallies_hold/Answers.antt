-- `beside::tallies_hold` meets its contract: the library's `all` over the first tallies is the test of their places.
use Rattle.std.proofs.Common.{rules, ◌≡◌, ◌∙◌, arith, take}
use Rattle.std.specs.List.{list_all}
use Rattle.std.proofs.lemmas.Iterator.{YieldsList-from_slice}
use Rattle.std.proofs.lemmas.Iterator.Search.{all_from_yields_List}
use Rattle.tally_rules.specs.Tally.{no_tally}
use Rattle.tally_rules.specs.Sound.{tally_holds}
use Rattle.tally_runs.proofs.Listed.{listed}
use Rattle.tally_runs.proofs.beside.tallies_hold.Goals as goal

pub returns : goal.returns
returns c =
    let row = c.args.tallies.row in
    let first = take c.args.count row in
    let all : c.all.result ≡ list_all tally_holds first =
    all_from_yields_List tally_holds _ _ _ c.all.ensures.ran (YieldsList-from_slice first (cc)) (λ x b q k. search rules) in
    all ∙ listed tally_holds row no_tally c.args.count (omega arith)
