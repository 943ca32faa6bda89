-- `report::tally_log` meets its contract: before each turn the rest of the log, tallied from what is held, gives what the whole log gives.
use Prim.Native.Nat.{ℕ, ◌+◌}
use mathlib.Core.Path.{◌≡◌, refl, sym, ap, subst, ◌∙◌}
use mathlib.Core.Bool.{Bool, true, false, cond}
use native.Mathlib.Omega.{arith}
use borrow.Author.Rules.{rules}
use lib.ListN.{drop}
use Rattle.std.specs.Prelude.{Option, None, Result, Ok, Err}
use Rattle.std.proofs.lemmas.Result.{err_from_is_err_and}
use Rattle.laws.proofs.Parts.{tail_is}
use Rattle.laws.proofs.Tests.{impossible}
use Rattle.refusals.specs.declared.Refusal.{Refusal}
use Rattle.refusals.specs.declared.Refusal.TheVariants.{NoFit}
use Rattle.event_reading.specs.declared.Event.{Event}
use Rattle.event_reading.specs.Reading.{as_reading}
use Rattle.event_reading.specs.Reading as R
use Rattle.event_reading.specs.Record.{read_record}
use Rattle.state_rules.specs.declared.State.{State}
use Rattle.tally_histories.specs.Events.{admits}
use Rattle.tally_runs.proofs.Stepped.{Stepped}
use Rattle.tally_runs.proofs.Tallying.{Tallying, tallying_none, tallying_more, tallying_refused, tallying_stop}
use Rattle.tally_runs.proofs.report.tally_log.Goals.{In-Ok-Some, In_ok-tally, After-ended, in_default-via-in-Ok+in_default, in_default-via-in_default}
use Rattle.tally_runs.proofs.report.tally_log.Goals as goal

-- what an answer by a test tells of it
kept_by : (b : Bool) → ◌≡◌ {A = Result Unit Refusal} (Ok tt) (cond b (Ok tt) (Err NoFit)) → b ≡ true
kept_by true e = refl
kept_by false e = impossible cc

refused_by : (b : Bool) (r : Refusal) → ◌≡◌ {A = Result Unit Refusal} (Err r) (cond b (Ok tt) (Err NoFit)) → (b ≡ false) × (r ≡ NoFit)
refused_by true r e = impossible cc
refused_by false r e = (refl, cc)

-- what reading said, of the log itself
reads : (c : In-Ok-Some) → read_record (drop c.loop-event.from c.args.log.now) ≡ R.Event c.in-Ok-Some.event
reads c =
    let o = c.in-Ok-Some in
    ap read_record (sym (tail_is c.args.log.now c.loop-event.from)) ∙ sym c.read-got.ensures ∙ ap as_reading o.is
    ∙ ap (λ (x : Option Event). as_reading (Ok x)) (rw o.is at o.field-0-is)

pub loop-event-init : goal.loop-event-init
loop-event-init c = tallying_none c.args.state c.args.tallies c.args.log.now c.requires

pub slice_bounds-read-count : goal.slice_bounds-read-count
slice_bounds-read-count c = c.loop-event.invariant.going.within

pub slice_bounds-read-start : goal.slice_bounds-read-start
slice_bounds-read-start c = c.loop-event.invariant.going.within

pub tally-requires : goal.tally-requires
tally-requires c = (c.loop-event.invariant.sound, c.loop-event.invariant.tallies)

pub returns-in_err-tally : goal.returns-in_err-tally
returns-in_err-tally c =
    let l = c.loop-event in
    let a = c.args in
    let e = c.in-Ok-Some.event in
    let p = err_from_is_err_and c.from_residual.result c.from_residual.ensures.1 in
    let b = refused_by (admits l.state l.tallies e) c.in_err-tally.field-0.0 c.in_err-tally.ensures.fault in
    rw (p.1, p.2, b.1)
    (sym (tallying_refused a.state a.tallies a.log.now l.state l.tallies l.from l.invariant e (reads (goal.at.returns-in_err-tally c).In-Ok-Some) b.0))

more : (c : In_ok-tally) → Tallying c.args.state c.args.tallies c.args.log.now c.tally.new.state c.tally.new.tallies (c.loop-event.from + 20)
more c =
    let l = c.loop-event in
    let a = c.args in
    let e = c.in-Ok-Some.event in
    let t = c.in_ok-tally.ensures in
    let f : Stepped l.state l.tallies e l.state.count c.tally.new.tallies =
    record { same = t.tallies.0; admitted = kept_by (admits l.state l.tallies e) t.fault; sound = t.tallies.1 } in
    subst (λ (q : State). Tallying a.state a.tallies a.log.now q c.tally.new.tallies (l.from + 20)) (sym t.state)
    (tallying_more a.state a.tallies a.log.now l.state l.tallies l.from l.invariant e c.tally.new.tallies (reads (goal.at.overflow_add-from c).In-Ok-Some) f)

pub overflow_add-from : goal.overflow_add-from
overflow_add-from c = omega (arith, (more c).going.within)

pub loop-event-smaller : goal.loop-event-smaller
loop-event-smaller c = omega (arith, (more c).going.within)

pub loop-event-preserved : goal.loop-event-preserved
loop-event-preserved c = more c

not_end : (x : Event) → R.End ≡ R.Event x → ⊥
not_end x e = impossible cc

not_refused : (n : ℕ) (x : Event) → R.Refused n ≡ R.Event x → ⊥
not_refused n x e = impossible cc

-- no event stands where the reading ended
silent : (c : After-ended) → (x : Event) → read_record (drop c.loop-event.from c.args.log.now) ≡ R.Event x → ⊥
silent c x q =
    let e = c.read-got.ensures ∙ ap read_record (tail_is c.args.log.now c.loop-event.from) ∙ q in
    elim c.in_default.branch [
      | in_default-via-in-Ok+in_default w ↦ let n : w.in_default.field-0 ≡ None = search rules in
          not_end x (ap (λ (o : Option Event). as_reading (Ok o)) (sym n) ∙ sym (ap as_reading w.in_default.is) ∙ e)
      | in_default-via-in_default w ↦ not_refused _ x (sym (ap as_reading w.in_default.is) ∙ e)
    ]

pub returns-in_default : goal.returns-in_default
returns-in_default c =
    let l = c.loop-event in
    let a = c.args in
    let s = a.log.now in
    let e = c.read-got.ensures ∙ ap read_record (tail_is s l.from) in
    rw (c.ended.ensures, e) (tallying_stop a.state a.tallies s l.state l.tallies l.from l.invariant (silent c))
