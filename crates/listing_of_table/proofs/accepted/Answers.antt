-- `accepted` meets its contract: the parts of the listing, one behind another.
use Prim.Native.Nat.{min}
use mathlib.Core.Path.{◌≡◌, refl, ap, ◌∙◌}
use native.Mathlib.Omega.{arith}
use Rattle.std.specs.Prelude.{Result, Ok, Err}
use Rattle.laws.proofs.Tests.{impossible}
use Rattle.text_writing.proofs.Putting.{then_put}
use Rattle.table_rules.specs.declared.Refused.{Refused}
use Rattle.table_rules.specs.declared.Table.{Table}
use Rattle.table_rules.specs.Answers.{Accepted}
use Rattle.table_rules.specs.Judging.{judged}
use Rattle.table_rules.proofs.Exactly.{judged_accepted}
use Rattle.state_rules.specs.declared.State.{State}
use Rattle.state_rules.specs.Started.{Started}
use Rattle.state_rules.specs.State.{fresh_state, as_started, started}
use Rattle.listing_text.specs.LogLines.{stop_text}
use Rattle.listing_text.specs.Listing.{table_listing}
use Rattle.listing_of_table.proofs.accepted.Goals as goal

-- the state that is started
begun : (t : Table) (r : Result State Refused) → judged t ≡ Accepted → as_started r ≡ started t → r ≡ Ok (fresh_state t)
unfolding started
begun t (Ok s) p q = ap Ok (ap (λ (x : Started). x.state) q ∙ rw p)
begun t (Err r) p q =
    let z = ap (λ (x : Started). x.answer) (rw p at q) in
    impossible cc

-- every task has its place
places : (t : Table) → judged t ≡ Accepted → min t.count 16 ≡ t.count
places t p = omega (arith, ((judged_accepted t).0 p).0.most)

pub unwrap-fresh-requires : goal.unwrap-fresh-requires
unwrap-fresh-requires c = rw (begun c.args.table c.start.result c.requires c.start.ensures) refl

pub returns : goal.returns
unfolding table_listing stop_text
returns c =
    let a = c.args in
    let b = begun a.table c.start.result c.requires c.start.ensures in
    let o = c.unwrap-fresh.ensures in
    let h : c.unwrap-fresh.result ≡ fresh_state a.table = cc in
    let e = c.each_event-ended.ensures in
    let k = c.stop.ensures in
    let p = places a.table c.requires in
    then_put (rw p at c.tasks.ensures) (then_put (rw h at e.0) (then_put (rw e.1.1 at k) (rw (e.1.0, h, p) at c.ends.ensures)))
