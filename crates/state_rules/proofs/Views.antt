-- The view of a start tells the answer: its case tells which of the two it is, and its parts are the answer's.
use Prim.Native.Nat.{ℕ}
use mathlib.Core.Path.{◌≡◌, sym, ap}
use Rattle.laws.proofs.Tests.{impossible}
use Rattle.table_rules.specs.Answers as N
use Rattle.std.specs.Prelude.{Result, Ok, Err}
use Rattle.refusals.specs.Numbers.{number_of}
use Rattle.refusals.proofs.Numbers.{number_tells}
use Rattle.table_rules.specs.Answers.{Answer, Accepted, Refused}
use Rattle.table_rules.specs.declared.Refused as D
use Rattle.state_rules.specs.declared.State.{State}
use Rattle.state_rules.specs.Started.{Started}
use Rattle.state_rules.specs.State.{as_started}

no_refusal : {n p : ℕ} → Accepted ≡ Refused n p → ⊥
no_refusal e = impossible cc

pub started_tells : (a b : Result State D.Refused) → as_started a ≡ as_started b → a ≡ b
started_tells (Ok s) (Ok u) e = ap Ok (ap (λ (x : Started). x.state) e)
started_tells (Ok s) (Err q) e = absurd (no_refusal (ap (λ (x : Started). x.answer) e))
started_tells (Err r) (Ok u) e = absurd (no_refusal (sym (ap (λ (x : Started). x.answer) e)))
started_tells (Err r) (Err q) e =
    let a = ap (λ (x : Started). x.answer) e in
    let n : number_of r.refusal ≡ number_of q.refusal = ap N.number_of a in
    let p : r.position ≡ q.position = ap N.position_of a in
    let f = number_tells r.refusal q.refusal n in
    ap Err (λ i. record { refusal = f i; position = p i })
