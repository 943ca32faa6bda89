-- `log::run` meets its contract: 15 before all; what has been read is applied to the state so far, and what is left of the log, applied to it, gives
-- what the whole gives.
use Prim.Native.Nat.{ℕ, ◌+◌}
use mathlib.Core.Path.{◌≡◌, sym, ap, ◌∙◌}
use native.Mathlib.Omega.{arith}
use Rattle.std.proofs.Common.{rules}
use lib.ListN.{drop}
use Rattle.std.specs.Prelude.{Ok, Option, None}
use Rattle.laws.proofs.Tests.{impossible}
use Rattle.laws.proofs.Parts.{tail_is}
use Rattle.event_reading.specs.declared.Event.{Event}
use Rattle.event_reading.specs.Reading as R
use Rattle.event_reading.specs.Reading.{as_reading}
use Rattle.event_reading.specs.Record.{read_record}
use Rattle.state_rules.specs.Sound.{StateSound}
use Rattle.state_rules.proofs.Sounding.{state_tells}
use Rattle.apply_events.specs.Answer.{as_told}
use Rattle.apply_events.specs.Log.{ran}
use Rattle.apply_events.proofs.Runs.{Running, ran_stands, running_none, running_more, running_stop}
use Rattle.apply_engine.proofs.log.run.Goals.{Else-not-is_sound, After-ended, After-act-answer, After-act-answer-in-loop-event, After-ended-in_default-got}
use Rattle.apply_engine.proofs.log.run.Goals.{in_default-via-in-Ok+in_default, in_default-via-in_default}
use Rattle.apply_engine.proofs.log.run.Goals.{in_default-got-via-in-Ok+in_default, in_default-got-via-in_default}
use Rattle.apply_engine.proofs.log.run.Goals as goal

sounds : (c : Else-not-is_sound) → StateSound c.args.state
sounds c = (state_tells c.args.state).holds (sym c.if-not-is_sound.ensures)

pub returns-then-not-is_sound : goal.returns-then-not-is_sound
unfolding ran
returns-then-not-is_sound c = rw (sym c.if-not-is_sound.ensures)

pub stand-requires : goal.stand-requires
stand-requires c = sounds (goal.at.stand-requires c).Else-not-is_sound

pub act-answer-requires : goal.act-answer-requires
act-answer-requires c = sounds (goal.at.act-answer-requires c).Else-not-is_sound

event_not_end : (x : Event) → R.End ≡ R.Event x → ⊥
event_not_end x z = impossible cc

refused_not_event : (n : ℕ) (x : Event) → R.Refused n ≡ R.Event x → ⊥
refused_not_event n x z = impossible cc

-- ---- no event at all

no_first : (c : After-ended) → (x : Event) → read_record c.args.log.now ≡ R.Event x → ⊥
no_first c x q =
    elim c.in_default.branch [
      | in_default-via-in-Ok+in_default w ↦
          let n : w.in_default.field-0 ≡ None = search rules in
          let end : R.End ≡ as_reading (Ok w.in_default.field-0) = ap (λ (o : Option Event). as_reading (Ok o)) (sym n) in
          event_not_end x (end ∙ sym (ap as_reading w.in_default.is) ∙ c.read-got.ensures ∙ q)
      | in_default-via-in_default w ↦ refused_not_event _ x (sym (ap as_reading w.in_default.is) ∙ c.read-got.ensures ∙ q)
    ]

pub returns-in_default : goal.returns-in_default
returns-in_default c =
    let d = ran_stands c.args.state c.args.log.now (sounds (goal.at.returns-in_default c).Else-not-is_sound) (no_first c) in
    rw (c.ended.ensures, c.read-got.ensures, c.stand.ensures) (sym d)

-- ---- an event, and those behind it

pub loop-event-init : goal.loop-event-init
loop-event-init c =
    let a = c.args in
    let p = sounds (goal.at.loop-event-init c).Else-not-is_sound in
    let r : read_record a.log.now ≡ R.Event c.in-Ok-Some.first =
    sym c.read-got.ensures ∙ ap as_reading c.in-Ok-Some.is ∙ ap (λ (x : Option Event). as_reading (Ok x)) (rw c.in-Ok-Some.is at c.in-Ok-Some.field-0-is) in
    rw (c.act-answer.ensures.answer, c.act-answer.ensures.state) (running_more a.state a.log.now p _ 0 (running_none a.state a.log.now p) c.in-Ok-Some.first r)

again : (c : After-act-answer-in-loop-event)
    → Running c.args.state c.args.log.now
    (record { answer = as_told c.act-answer-in-loop-event.result; state = c.act-answer-in-loop-event.new.state }) (c.loop-event.from + 20)
again c =
    let a = c.args in
    let l = c.loop-event in
    let o = c.in-Ok-Some-got in
    let r : read_record (drop l.from a.log.now) ≡ R.Event o.event =
    ap read_record (sym (tail_is a.log.now l.from)) ∙ sym c.read-got-in-loop-event.ensures ∙ ap as_reading o.is
    ∙ ap (λ (x : Option Event). as_reading (Ok x)) (rw o.is at o.field-0-is) in
    rw (c.act-answer-in-loop-event.ensures.answer, c.act-answer-in-loop-event.ensures.state)
    (running_more a.state a.log.now (sounds (goal.at.loop-event-preserved c).Else-not-is_sound) (record { answer = as_told l.answer; state = l.state }) l.from
    l.invariant o.event r)

pub loop-event-smaller : goal.loop-event-smaller
loop-event-smaller c = omega (arith, (again c).going.within)

pub loop-event-preserved : goal.loop-event-preserved
loop-event-preserved c = again c

-- what ended the loop is no event
no_event : (c : After-ended-in_default-got) → (x : Event) → read_record (drop c.loop-event.from c.args.log.now) ≡ R.Event x → ⊥
no_event c x q =
    let t = ap read_record (tail_is c.args.log.now c.loop-event.from) ∙ q in
    elim c.in_default-got.branch [
      | in_default-got-via-in-Ok+in_default w ↦
          let n : w.in_default-got.field-0 ≡ None = search rules in
          let end : R.End ≡ as_reading (Ok w.in_default-got.field-0) = ap (λ (o : Option Event). as_reading (Ok o)) (sym n) in
          event_not_end x (end ∙ sym (ap as_reading w.in_default-got.is) ∙ c.read-got-in-loop-event.ensures ∙ t)
      | in_default-got-via-in_default w ↦ refused_not_event _ x (sym (ap as_reading w.in_default-got.is) ∙ c.read-got-in-loop-event.ensures ∙ t)
    ]

pub returns-in_default-got : goal.returns-in_default-got
returns-in_default-got c =
    let a = c.args in
    let l = c.loop-event in
    let e = c.read-got-in-loop-event.ensures ∙ ap read_record (tail_is a.log.now l.from) in
    let d =
    running_stop a.state a.log.now (sounds (goal.at.returns-in_default-got c).Else-not-is_sound) (record { answer = as_told l.answer; state = l.state }) l.from
    l.invariant (no_event c) in
    rw (c.ended-in_default-got.ensures, e) (sym d)
