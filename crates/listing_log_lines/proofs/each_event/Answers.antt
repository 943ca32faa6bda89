-- `each_event` meets its contract: before each turn the rest of the log, listed from what is held, gives what the whole log lists.
use Prim.Native.Nat.{ℕ}
use mathlib.Core.Path.{◌≡◌, sym, ap, ◌∙◌}
use native.Mathlib.Omega.{arith}
use Rattle.std.proofs.Common.{rules}
use Rattle.std.specs.Prelude.{Ok, Option, None}
use lib.ListN.{drop}
use Rattle.laws.proofs.Parts.{tail_is}
use Rattle.laws.proofs.Tests.{impossible}
use Rattle.event_reading.specs.declared.Event.{Event}
use Rattle.event_reading.specs.Reading as R
use Rattle.event_reading.specs.Reading.{as_reading}
use Rattle.event_reading.specs.Record.{read_record}
use Rattle.apply_events.specs.Answer.{Applied}
use Rattle.listing_log_lines.proofs.Events.{listing_more, listing_stop}
use Rattle.listing_log_lines.proofs.each_event.Goals.{After-ended, in_default-via-in-Ok+in_default, in_default-via-in_default}
use Rattle.listing_log_lines.proofs.each_event.Goals as goal

-- after a record that reads
pub loop-event-preserved : goal.loop-event-preserved
loop-event-preserved c =
    let a = c.args in
    let l = c.loop-event in
    let o = c.in-Ok-Some in
    let r : read_record (drop l.from a.log.now) ≡ R.Event o.event =
    ap read_record (sym (tail_is a.log.now l.from)) ∙ sym c.read-got.ensures ∙ ap as_reading o.is
    ∙ ap (λ (x : Option Event). as_reading (Ok x)) (rw o.is at o.field-0-is) in
    let d = c.apply-done.ensures in
    rw (ap (λ (x : Applied). x.state) d)
    (listing_more _ a.first a.log.now l.sheet l.state l.i l.from l.invariant o.event _ r (rw (ap (λ (x : Applied). x.answer) d) at c.event.ensures))

pub loop-event-smaller : goal.loop-event-smaller
loop-event-smaller c = omega (arith, (loop-event-preserved c).going.within)

event_not_end : (x : Event) → R.End ≡ R.Event x → ⊥
event_not_end x z = impossible cc

refused_not_event : (n : ℕ) (x : Event) → R.Refused n ≡ R.Event x → ⊥
refused_not_event n x z = impossible cc

-- what ended the loop is no event
no_event : (c : After-ended) → (x : Event) → as_reading c.read-got.result ≡ R.Event x → ⊥
no_event c x q =
    elim c.in_default.branch [
      | in_default-via-in-Ok+in_default w ↦
          let n : w.in_default.field-0 ≡ None = search rules in
          let end : R.End ≡ as_reading (Ok w.in_default.field-0) = ap (λ (o : Option Event). as_reading (Ok o)) (sym n) in
          event_not_end x (end ∙ sym (ap as_reading w.in_default.is) ∙ q)
      | in_default-via-in_default w ↦ refused_not_event _ x (sym (ap as_reading w.in_default.is) ∙ q)
    ]

pub returns-in_default : goal.returns-in_default
returns-in_default c =
    let a = c.args in
    let l = c.loop-event in
    rw c.ended.ensures
    (listing_stop _ a.first a.log.now l.sheet l.state l.i l.from l.invariant _ (c.read-got.ensures ∙ ap read_record (tail_is a.log.now l.from)) (no_event c))
