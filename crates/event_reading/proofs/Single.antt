-- No two rules for one event, or for one record, give different answers: the computed answer is the only one that a rule holds of, and it tells the code's.
use Prim.Native.Nat.{ℕ}
use mathlib.Core.Path.{◌≡◌, refl, ap}
use mathlib.Core.List.{List}
use Rattle.std.specs.Prelude.{Option, Some, None, Result, Ok, Err}
use Rattle.laws.proofs.Answers.{one_answer}
use Rattle.laws.proofs.Tests.{impossible}
use Rattle.refusals.specs.declared.Refusal.{Refusal}
use Rattle.refusals.specs.Numbers.{number_of}
use Rattle.refusals.proofs.Numbers.{number_tells}
use Rattle.event_reading.specs.declared.Event.{Event}
use Rattle.event_reading.specs.Reading.{Reading, as_reading}
use Rattle.event_reading.specs.Event.{Judged}
use Rattle.event_reading.specs.Record.{Reads}
use Rattle.event_reading.proofs.Rules.{judged_is, judged_only}
use Rattle.event_reading.proofs.ReadOne.{reads_is, reads_only}

pub judge_single : (e : Event) {m n : ℕ} → Judged e m → Judged e n → m ≡ n
judge_single e = one_answer (Judged e) (judged_is e) (λ n j. judged_only j)

pub read_single : (s : List ℕ) {a b : Reading} → Reads s a → Reads s b → a ≡ b
read_single s = one_answer (Reads s) (reads_is s) (λ r h. reads_only h)

-- the rules' terms tell the code's answers apart
pub reading_tells : (a b : Result (Option Event) Refusal) → as_reading a ≡ as_reading b → a ≡ b
reading_tells (Ok (Some e)) (Ok (Some f)) q = let w : e ≡ f = cc in ap (λ (x : Event). Ok (Some x)) w
reading_tells (Ok (Some e)) (Ok None) q = impossible cc
reading_tells (Ok (Some e)) (Err s) q = impossible cc
reading_tells (Ok None) (Ok (Some f)) q = impossible cc
reading_tells (Ok None) (Ok None) q = refl
reading_tells (Ok None) (Err s) q = impossible cc
reading_tells (Err r) (Ok (Some f)) q = impossible cc
reading_tells (Err r) (Ok None) q = impossible cc
reading_tells (Err r) (Err s) q = let w : number_of r ≡ number_of s = cc in ap Err (number_tells r s w)
