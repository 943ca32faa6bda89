-- `acting::act` meets its contract: the ruling on the record at the event's seat decides.
use Prim.Native.Nat.{min, ◌<◌}
use mathlib.Core.Path.{◌≡◌, refl, sym, ap, ◌∙◌}
use native.Mathlib.Omega.{arith}
use lib.ListN.{set}
use Rattle.std.specs.Prelude.{Ok}
use Rattle.std.proofs.lemmas.Result.{err_from_is_err_and}
use Rattle.refusals.specs.Numbers.{number_of}
use Rattle.refusals.proofs.Numbers.{number_some}
use Rattle.state_choice.specs.Best.{as_best}
use Rattle.state_rules.specs.declared.State.{State}
use Rattle.apply_events.specs.Answer.{Applied, as_told}
use Rattle.apply_events.specs.Apply.{moved, refused, applied}
use Rattle.apply_engine.proofs.Rulings.{seat, refused_by, accepted_by}
use Rattle.apply_engine.proofs.Settled.{Settling, best_placed, settled_accepted}
use Rattle.apply_engine.proofs.acting.act.Goals.{After-from_residual, After-place, After-told}
use Rattle.apply_engine.proofs.acting.act.Goals as goal

-- a refused event
refuses : (c : After-from_residual) → applied c.args.state.now c.args.event ≡ refused c.args.state.now (number_of c.in_err-after.field-0.0)
refuses c =
    refused_by c.args.state.now c.args.event c.requires _ (rw c.seat-at.ensures at c.in_err-after.ensures) (number_some c.in_err-after.field-0.0)

pub returns-in_err-after-clause-answer : goal.returns-in_err-after-clause-answer
returns-in_err-after-clause-answer c =
    let p = err_from_is_err_and c.from_residual.result c.from_residual.ensures.1 in
    rw (p.1, p.2) (sym (ap (λ (x : Applied). x.answer) (refuses c)))

pub returns-in_err-after-clause-state : goal.returns-in_err-after-clause-state
returns-in_err-after-clause-state c = sym (ap (λ (x : Applied). x.state) (refuses c))

-- the best job stands at one of the 16 places
placed : (c : After-place) → c.place.result < 16
placed c =
    rw (c.place.ensures, c.expire_all-best.ensures.best, c.expire_all-best.ensures.state)
    (best_placed _ c.args.state.now.count c.requires.counted.one)

pub offset_bounds-state-place : goal.offset_bounds-state-place
offset_bounds-state-place c = omega (arith, placed c)

pub bounds-state-place : goal.bounds-state-place
bounds-state-place c = placed (goal.at.bounds-state-place c).After-place

-- the row that is left, and the best job over it
settles : (c : After-told)
    → let s = c.args.state.now in
    let e = c.args.event in
    let next = c.expire_all-best.new.state in
    Settling (set s.records (seat s e) c.in_ok-after.after) e.time s.count next.records (as_best c.expire_all-best.result)
settles c =
    let s = c.args.state.now in
    let z = rw c.seat-at.ensures at c.expire_all-best.ensures.state in
    let m : min s.count 16 ≡ s.count = omega (arith, c.requires.counted.most) in
    record {
      rows = ap (λ (x : State). x.records) z;
      least = c.expire_all-best.ensures.best ∙ rw (ap (λ (x : State). x.count) z, m);
    }

-- an accepted one
accepts : (c : After-told)
    → applied c.args.state.now c.args.event ≡ record { answer = as_told (Ok c.told.result); state = c.expire_all-best.new.state }
accepts c =
    let s = c.args.state.now in
    let e = c.args.event in
    let x = c.in_ok-after.after in
    let next = c.expire_all-best.new.state in
    let a = accepted_by s e c.requires _ (rw c.seat-at.ensures at c.in_ok-after.ensures) refl in
    let z = c.expire_all-best.ensures.state in
    let parts : moved s e.time next.records ≡ next = ap (moved s e.time) (ap (λ (y : State). y.records) z) ∙ sym z in
    a.same ∙ settled_accepted s e.time (seat s e) x next.records (as_best c.expire_all-best.result) c.requires a.below a.prompt (settles c)
    ∙ rw (c.told.ensures, c.place.ensures, parts)

pub returns-clause-answer : goal.returns-clause-answer
returns-clause-answer c = sym (ap (λ (x : Applied). x.answer) (accepts c))

pub returns-clause-state : goal.returns-clause-state
returns-clause-state c = sym (ap (λ (x : Applied). x.state) (accepts c))
