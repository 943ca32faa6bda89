-- `of_table` meets its contract: the table's refusal, or the listing of the table that was read.
use mathlib.Core.Path.{sym, ap}
use Rattle.table_reading.specs.Answers.{TableRead}
use Rattle.table_reading.proofs.Given.{read_good}
use Rattle.listing_text.specs.Listing.{listed}
use Rattle.listing_of_table.proofs.of_table.Goals as goal

pub accepted-requires : goal.accepted-requires
accepted-requires c =
    let e = c.in-Ok.ensures in
    rw (← e) at (read_good _ (sym (ap (λ (x : TableRead). x.answer) e)))

pub returns-in-Ok : goal.returns-in-Ok
unfolding listed
returns-in-Ok c = rw (← c.in-Ok.ensures) c.accepted.ensures

pub returns-in-Err : goal.returns-in-Err
unfolding listed
returns-in-Err c = rw (← c.in-Err.ensures) (rw c.number.ensures at c.refused.ensures)
