-- `sound::is_sound_in` meets its contract: the library's `all` over the row is the rules' test of each record.
use Rattle.std.proofs.Common.{rules, ◌≡◌, sym, ◌∙◌}
use Rattle.std.specs.List.{list_all}
use Rattle.std.proofs.lemmas.Iterator.{YieldsList-from_slice}
use Rattle.std.proofs.lemmas.Iterator.Search.{all_from_yields_List}
use Rattle.lent_records.proofs.Sounds.{test, state_is}
use Rattle.lent_records.proofs.sound.is_sound_in.Goals as goal

pub returns-then-admits : goal.returns-then-admits
returns-then-admits c =
    let l = c.args.row.now in
    let all : c.all.result ≡ list_all (test l c.args.clock) l =
    all_from_yields_List (test l c.args.clock) _ _ _ c.all.ensures.ran (YieldsList-from_slice l (cc)) (λ x b q k. search rules) in
    rw (state_is l c.args.clock, sym c.admits.ensures ∙ c.if-admits.true) all

pub returns-else-admits : goal.returns-else-admits
returns-else-admits c = rw (state_is c.args.row.now c.args.clock, sym c.admits.ensures ∙ c.if-admits.false) c.if-admits.false
