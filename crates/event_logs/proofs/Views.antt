-- The rules' terms tell the code's answers apart, so a contract on an answer in these terms admits a single one.
use Prim.Native.Nat.{ℕ}
use mathlib.Core.Path.{◌≡◌, refl, ap, ◌∙◌}
use Rattle.std.specs.Prelude.{Result, Ok, Err}
use Rattle.laws.proofs.Tests.{impossible}
use Rattle.refusals.specs.declared.Refusal.{Refusal}
use Rattle.refusals.specs.Numbers.{number_of}
use Rattle.refusals.proofs.Numbers.{number_tells}
use Rattle.event_logs.specs.declared.Stop.{Stop}
use Rattle.event_logs.specs.Stops.{as_ending}

pub ending_tells : (a b : Result Unit Stop) → as_ending a ≡ as_ending b → a ≡ b
ending_tells (Ok x) (Ok y) e = refl
ending_tells (Ok x) (Err s) e = impossible cc
ending_tells (Err r) (Ok y) e = impossible cc
ending_tells (Err r) (Err s) e =
    let w : number_of r.refusal ≡ number_of s.refusal = cc in
    let p = number_tells r.refusal s.refusal w in
    let q : r.offset ≡ s.offset = cc in
    ap Err (ap (λ (x : Refusal). record { refusal = x; offset = r.offset }) p ∙ ap (λ (x : ℕ). record { refusal = s.refusal; offset = x }) q)
