-- The view of a ruling keeps the code's answers apart: no refusal has the number 0, and its number tells it.
use mathlib.Core.Path.{◌≡◌, sym, ap}
use Rattle.std.specs.Prelude.{Result, Ok, Err}
use Rattle.refusals.specs.declared.Refusal.{Refusal}
use Rattle.refusals.proofs.Numbers.{number_tells, number_some}
use Rattle.task_records.specs.declared.Record.{Record}
use Rattle.apply_ruling.specs.Answer.{Ruling, as_ruling}

module _ (of : Record) where
  pub ruling_tells : (a b : Result Record Refusal) → as_ruling of a ≡ as_ruling of b → a ≡ b
  ruling_tells (Ok x) (Ok y) e = ap Ok (ap (λ (q : Ruling). q.after) e)
  ruling_tells (Ok x) (Err s) e = absurd (number_some s (sym (ap (λ (q : Ruling). q.refusal) e)))
  ruling_tells (Err r) (Ok y) e = absurd (number_some r (ap (λ (q : Ruling). q.refusal) e))
  ruling_tells (Err r) (Err s) e = ap Err (number_tells r s (ap (λ (q : Ruling). q.refusal) e))
