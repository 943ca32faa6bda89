-- A contract on one bound in the rules' terms admits a single answer: a refusal's number tells which it is.
use Prim.Native.Nat.{ℕ}
use mathlib.Core.Path.{◌≡◌, ap, ◌∙◌}
use Rattle.std.specs.Prelude.{Result, Ok, Err}
use Rattle.refusals.specs.declared.Refusal.{Refusal}
use Rattle.refusals.proofs.Numbers.{number_tells}
use Rattle.table_rules.specs.declared.Refused as D
use Rattle.bound_one.specs.Bound.{as_bound}
use Rattle.bound_one.specs.Answers.{bound_number, bound_position, bound_value}

pub bound_tells : (a b : Result ℕ D.Refused) → as_bound a ≡ as_bound b → a ≡ b
bound_tells (Ok x) (Ok y) e = ap Ok (ap bound_value e)
bound_tells (Ok x) (Err r) e = cc
bound_tells (Err r) (Ok y) e = cc
bound_tells (Err r) (Err s) e =
    let p : r.refusal ≡ s.refusal = number_tells r.refusal s.refusal (ap bound_number e) in
    let q : r.position ≡ s.position = ap bound_position e in
    ap Err (ap (λ (x : Refusal). record { refusal = x; position = r.position }) p ∙ ap (λ (x : ℕ). record { refusal = s.refusal; position = x }) q)
