-- The view of a turn tells the turn: by its answer, which its own view tells, and by the clock.
use Rattle.std.proofs.Common.{◌≡◌, ap, ◌∙◌, ℕ}
use Rattle.apply_events.proofs.Views.{told_tells}
use Rattle.std.specs.Prelude.{Option, Result}
use Rattle.refusals.specs.declared.Refusal.{Refusal}
use Rattle.apply_events.specs.declared.Chosen.{Chosen}
use Rattle.lent_answers.specs.declared.Turn as D
use Rattle.lent_answers.specs.Turn.{Turn, as_turn}

pub turn_tells : (t u : D.Turn) → as_turn t ≡ as_turn u → t ≡ u
turn_tells t u e =
    ap (λ (x : Result (Option Chosen) Refusal). record { answer = x; clock = t.clock }) (told_tells t.answer u.answer (ap (λ (x : Turn). x.answer) e))
    ∙ ap (λ (n : ℕ). record { answer = u.answer; clock = n }) (ap (λ (x : Turn). x.clock) e)
