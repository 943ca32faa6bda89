-- The views of answers keep the code's answers apart, since a refusal's number tells it.
use Prim.Native.Nat.{ℕ}
use mathlib.Core.Path.{◌≡◌, refl, ap, ◌∙◌}
use Rattle.std.specs.Prelude.{Option, Some, None, Result, Ok, Err}
use Rattle.laws.proofs.Tests.{impossible}
use Rattle.refusals.specs.declared.Refusal.{Refusal}
use Rattle.refusals.proofs.Numbers.{number_tells}
use Rattle.event_logs.specs.declared.Stop.{Stop}
use Rattle.event_logs.proofs.Views.{ending_tells}
use Rattle.state_rules.specs.declared.State.{State}
use Rattle.apply_events.specs.declared.Chosen.{Chosen}
use Rattle.apply_events.specs.declared.Applied as DA
use Rattle.apply_events.specs.declared.Ran as DR
use Rattle.apply_events.specs.Answer.{Applied, Ran, as_told, as_applied, as_ran}

same_chosen : (c d : Chosen) → c.position ≡ d.position → c.class ≡ d.class → c ≡ d
same_chosen c d p q =
    ap (λ (n : ℕ). record { position = n; class = c.class }) p ∙ ap (λ (n : ℕ). record { position = d.position; class = n }) q

pub told_tells : (a b : Result (Option Chosen) Refusal) → as_told a ≡ as_told b → a ≡ b
told_tells (Ok (Some c)) (Ok (Some d)) e = ap (λ (x : Chosen). Ok (Some x)) (same_chosen c d (cc) (cc))
told_tells (Ok (Some c)) (Ok None) e = impossible cc
told_tells (Ok (Some c)) (Err s) e = impossible cc
told_tells (Ok None) (Ok (Some d)) e = impossible cc
told_tells (Ok None) (Ok None) e = refl
told_tells (Ok None) (Err s) e = impossible cc
told_tells (Err r) (Ok (Some d)) e = impossible cc
told_tells (Err r) (Ok None) e = impossible cc
told_tells (Err r) (Err s) e = ap Err (number_tells r s (cc))

pub applied_tells : (a b : DA.Applied) → as_applied a ≡ as_applied b → a ≡ b
applied_tells a b e =
    ap (λ (x : Result (Option Chosen) Refusal). record { answer = x; state = a.state })
    (told_tells a.answer b.answer (ap (λ (x : Applied). x.answer) e))
    ∙ ap (λ (x : State). record { answer = b.answer; state = x }) (ap (λ (x : Applied). x.state) e)

pub ran_tells : (a b : DR.Ran) → as_ran a ≡ as_ran b → a ≡ b
ran_tells a b e =
    ap (λ (x : Result (Option Chosen) Refusal). record { answer = x; state = a.state; ending = a.ending })
    (told_tells a.answer b.answer (ap (λ (x : Ran). x.answer) e))
    ∙ ap (λ (x : State). record { answer = b.answer; state = x; ending = a.ending }) (ap (λ (x : Ran). x.state) e)
    ∙ ap (λ (x : Result Unit Stop). record { answer = b.answer; state = b.state; ending = x })
    (ending_tells a.ending b.ending (ap (λ (x : Ran). x.ending) e))
