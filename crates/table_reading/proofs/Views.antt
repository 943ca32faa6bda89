-- The rules' terms tell the code's answers apart, so a contract on an answer in these terms admits a single one.
use mathlib.Core.Path.{◌≡◌, ap}
use Rattle.std.specs.Prelude.{Result, Ok, Err}
use Rattle.laws.proofs.Tests.{impossible}
use Rattle.refusals.specs.declared.Refusal.{Refusal}
use Rattle.refusals.specs.Numbers.{number_of}
use Rattle.refusals.proofs.Numbers.{number_tells}
use Rattle.table_rules.specs.declared.Task.{Task}
use Rattle.table_rules.specs.declared.Table.{Table}
use Rattle.table_rules.specs.declared.Refused as D
use Rattle.table_rules.proofs.Answers.{answer_tells}
use Rattle.table_reading.specs.Answers.{TableRead, as_row}
use Rattle.table_reading.specs.Table.{as_table_read}

pub row_tells : (a b : Result Task Refusal) → as_row a ≡ as_row b → a ≡ b
row_tells (Ok t) (Ok u) e = let w : t ≡ u = cc in ap Ok w
row_tells (Ok t) (Err s) e = impossible cc
row_tells (Err r) (Ok u) e = impossible cc
row_tells (Err r) (Err s) e = let w : number_of r ≡ number_of s = cc in ap Err (number_tells r s w)

pub table_read_tells : (a b : Result Table D.Refused) → as_table_read a ≡ as_table_read b → a ≡ b
table_read_tells (Ok t) (Ok u) e = ap Ok (ap (λ (r : TableRead). r.table) e)
table_read_tells (Ok t) (Err s) e = let w = ap (λ (r : TableRead). r.answer) e in impossible cc
table_read_tells (Err r) (Ok u) e = let w = ap (λ (r : TableRead). r.answer) e in impossible cc
table_read_tells (Err r) (Err s) e =
    let w : Err r ≡ Err s = answer_tells (Err r) (Err s) (ap (λ (r : TableRead). r.answer) e) in
    let v : r ≡ s = cc in
    ap Err v
