-- What is answered tells the code's answer, so a contract on it admits a single one: by its two cases.
use mathlib.Core.Path.{◌≡◌, ap}
use Rattle.std.specs.Prelude.{Result, Ok, Err}
use Rattle.laws.proofs.Tests.{impossible}
use Rattle.refusals.specs.declared.Refusal.{Refusal}
use Rattle.refusals.specs.Numbers.{number_of}
use Rattle.refusals.proofs.Numbers.{number_tells}
use Rattle.tally_rules.specs.declared.Tally.{Tally}
use Rattle.tally_rules.specs.Answer.{Accepted, Refused, Tallied, as_tallied}

pub tallied_tells : (t : Tally) (a b : Result Tally Refusal) → as_tallied t a ≡ as_tallied t b → a ≡ b
tallied_tells t (Ok x) (Ok y) e = let q : x ≡ y = ap (λ (z : Tallied). z.tally) e in ap Ok q
tallied_tells t (Err r) (Err s) e =
    let q : Refused (number_of r) ≡ Refused (number_of s) = ap (λ (z : Tallied). z.answer) e in
    let n : number_of r ≡ number_of s = cc in
    ap Err (number_tells r s n)
tallied_tells t (Ok x) (Err s) e = let q : Accepted ≡ Refused (number_of s) = ap (λ (z : Tallied). z.answer) e in impossible cc
tallied_tells t (Err r) (Ok y) e = let q : Refused (number_of r) ≡ Accepted = ap (λ (z : Tallied). z.answer) e in impossible cc
