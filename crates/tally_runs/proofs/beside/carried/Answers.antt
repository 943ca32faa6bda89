-- `beside::carried` meets its contract: the library's `all` over the first tallies, each beside its record, is the test of their places.
use Rattle.std.proofs.Common.{rules, ◌≡◌, ◌∙◌, arith, take, Bool, nat_eq}
use Rattle.std.specs.List.{list_all, zip}
use Rattle.std.proofs.lemmas.Iterator.{YieldsList-from_slice, YieldsList-from_zip}
use Rattle.std.proofs.lemmas.Iterator.Search.{all_from_yields_List}
use Rattle.task_records.specs.declared.Record.{Record}
use Rattle.task_steps.specs.Opening.{no_record}
use Rattle.tally_rules.specs.declared.Tally.{Tally}
use Rattle.tally_rules.specs.Tally.{no_tally}
use Rattle.tally_runs.proofs.Listed.{paired}
use Rattle.tally_runs.proofs.beside.carried.Goals as goal

abbrev same_d : Tally × Record → Bool
same_d p = nat_eq p.0.d p.1.task.d

pub returns : goal.returns
returns c =
    let row = c.args.tallies.row in
    let records = c.args.state.records in
    let n = c.args.state.count in
    let all : c.all.result ≡ list_all same_d (zip (take n row) records) =
    all_from_yields_List same_d c.all.new.self _ _ c.all.ensures.ran
    (YieldsList-from_zip (YieldsList-from_slice (take n row) (cc)) (YieldsList-from_slice records (cc)))
    (λ x b q k. search rules) in
    all ∙ paired same_d row records no_tally no_record n (omega arith) (omega arith)
