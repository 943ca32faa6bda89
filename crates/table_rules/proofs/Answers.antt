-- What the code answers of a table: it refuses the first position that has a fault, and the rules' terms tell its answers apart.
use Prim.Native.Nat.{ℕ, ◌≤◌, ◌<◌}
use mathlib.Core.Path.{◌≡◌, refl, ap, ◌∙◌}
use borrow.Author.Tests.{le-leb}
use Rattle.std.specs.Prelude.{Result, Ok, Err}
use Rattle.laws.proofs.Tests.{impossible}
use Rattle.refusals.specs.declared.Refusal.{Refusal}
use Rattle.refusals.specs.Numbers as N
use Rattle.refusals.proofs.Numbers.{number_tells, number_some}
use Rattle.table_rules.specs.declared.Table.{Table}
use Rattle.table_rules.specs.declared.Refused as D
use Rattle.table_rules.specs.Answers.{Accepted, Refused, as_answer, number_of, position_of}
use Rattle.table_rules.specs.Judging.{first_fault, fault_at, judged}
use Rattle.table_rules.proofs.Faults.{found_at}

pub judged_here : (t : Table) (i : ℕ) (r : Refusal) → 1 ≤ t.count → t.count ≤ 16 → i < t.count → first_fault (fault_at t) i ≡ Accepted
    → N.number_of r ≡ fault_at t i → Refused (N.number_of r) i ≡ judged t
unfolding judged
judged_here t i r p q h a e =
    let f = found_at (fault_at t) i t.count h a (λ z. number_some r (e ∙ z)) in
    rw (le-leb _ _ p, le-leb _ _ q, f) (ap (λ (n : ℕ). Refused n i) e)

-- a contract on the answer in the rules' terms admits a single answer
pub answer_tells : (a b : Result Unit D.Refused) → as_answer a ≡ as_answer b → a ≡ b
answer_tells (Ok x) (Ok y) e = refl
answer_tells (Ok x) (Err r) e = impossible cc
answer_tells (Err r) (Ok y) e = impossible cc
answer_tells (Err r) (Err s) e =
    let p : r.refusal ≡ s.refusal = number_tells r.refusal s.refusal (ap number_of e) in
    let q : r.position ≡ s.position = ap position_of e in
    ap Err (ap (λ (x : Refusal). record { refusal = x; position = r.position }) p ∙ ap (λ (x : ℕ). record { refusal = s.refusal; position = x }) q)
