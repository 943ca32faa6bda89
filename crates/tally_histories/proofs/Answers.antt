-- What a report answers tells the code's answer, so a contract on it admits a single one: case by case, and part by part.
use Prim.Native.Nat.{ℕ}
use mathlib.Core.Path.{◌≡◌, refl, ap, ◌∙◌}
use Rattle.std.specs.Prelude.{Result, Ok, Err}
use Rattle.laws.proofs.Tests.{impossible}
use Rattle.refusals.specs.declared.Refusal.{Refusal}
use Rattle.refusals.specs.Numbers.{number_of}
use Rattle.refusals.proofs.Numbers.{number_tells}
use Rattle.event_logs.specs.declared.Stop.{Stop}
use Rattle.event_logs.specs.Stops.{as_ending}
use Rattle.state_rules.specs.declared.State.{State}
use Rattle.tally_rules.specs.declared.Tallies.{Tallies}
use Rattle.tally_rules.specs.Answer.{Accepted, Refused}
use Rattle.tally_histories.specs.declared.Reported as D
use Rattle.tally_histories.specs.Answer.{Reported, as_reported}

same_stop : (s t : Stop) → s.refusal ≡ t.refusal → s.offset ≡ t.offset → s ≡ t
same_stop s t p q =
    ap (λ (r : Refusal). record { refusal = r; offset = s.offset }) p ∙ ap (λ (n : ℕ). record { refusal = t.refusal; offset = n }) q

ending_tells : (a b : Result Unit Stop) → as_ending a ≡ as_ending b → a ≡ b
ending_tells (Ok u) (Ok v) e = refl
ending_tells (Ok u) (Err t) e = impossible cc
ending_tells (Err s) (Ok v) e = impossible cc
ending_tells (Err s) (Err t) e = ap Err (same_stop s t (number_tells s.refusal t.refusal (cc)) (cc))

same_report : (x y : D.Reported) → x.state ≡ y.state → x.tallies ≡ y.tallies → x.ending ≡ y.ending → x ≡ y
same_report x y p q r =
    ap (λ (s : State). record { state = s; tallies = x.tallies; ending = x.ending }) p
    ∙ ap (λ (t : Tallies). record { state = y.state; tallies = t; ending = x.ending }) q
    ∙ ap (λ (n : Result Unit Stop). record { state = y.state; tallies = y.tallies; ending = n }) r

pub reported_tells : (s : State) (ts : Tallies) (a b : Result D.Reported Refusal) → as_reported s ts a ≡ as_reported s ts b → a ≡ b
reported_tells s ts (Ok x) (Ok y) e =
    ap Ok
    (same_report x y (ap (λ (z : Reported). z.state) e) (ap (λ (z : Reported). z.tallies) e)
    (ending_tells x.ending y.ending (ap (λ (z : Reported). z.ending) e)))
reported_tells s ts (Err r) (Err q) e =
    let p : Refused (number_of r) ≡ Refused (number_of q) = ap (λ (z : Reported). z.answer) e in
    let n : number_of r ≡ number_of q = cc in
    ap Err (number_tells r q n)
reported_tells s ts (Ok x) (Err q) e = let p : Accepted ≡ Refused (number_of q) = ap (λ (z : Reported). z.answer) e in impossible cc
reported_tells s ts (Err r) (Ok y) e = let p : Refused (number_of r) ≡ Accepted = ap (λ (z : Reported). z.answer) e in impossible cc
