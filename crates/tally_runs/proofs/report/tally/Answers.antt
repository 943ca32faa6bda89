-- `report::tally` meets its contract: the ruling on the record at the event's seat decides, and a completion that it accepts is put into its own task's
-- tally, by its response.
use Prim.Native.Nat.{ℕ, ◌-◌, ◌≤◌}
use mathlib.Core.Path.{◌≡◌, refl, sym, ap, ◌∙◌, subst}
use mathlib.Core.Bool.{true}
use borrow.Author.Rules.{rules}
use borrow.Author.Tests.{eq-eqb, ne_eqb}
use lib.Dec.{eqb}
use lib.ListN.{set}
use Rattle.std.specs.Prelude.{Err}
use Rattle.std.proofs.lemmas.Result.{err_from_is_err_and}
use Rattle.refusals.specs.declared.Refusal.TheVariants.{NoFit}
use Rattle.refusals.specs.Numbers.{number_of}
use Rattle.refusals.proofs.Numbers.{number_tells, number_some}
use Rattle.event_reading.specs.declared.Event.{Event}
use Rattle.state_rules.specs.declared.State.{State}
use Rattle.state_rules.specs.State.{record_at}
use Rattle.tally_rules.specs.Tally.{tally_at}
use Rattle.tally_rules.specs.Adding.{accepted, kept, put_in}
use Rattle.tally_histories.specs.Events.{closes_met, response_at}
use Rattle.tally_histories.proofs.Added.{met_after}
use Rattle.tally_runs.proofs.InPlace.{refused_meets, refused_state, accepted_meets, own_seat, accepted_state}
use Rattle.tally_runs.proofs.Stepped.{put_number, Stepped, stepped_none, stepped_refused, stepped_more}
use Rattle.tally_runs.proofs.report.tally.Goals.{In_default, In-Ok, After-expire_all}
use Rattle.tally_runs.proofs.report.tally.Goals.{then-event-eq-COMPLETION+in_ok-tallies, else-event-eq-COMPLETION}
use Rattle.tally_runs.proofs.report.tally.Goals as goal

-- ---- an event that is refused

untouched : (c : In_default) → Stepped c.args.state.now c.args.tallies.now c.args.event c.args.state.now.count c.args.tallies.now
untouched c =
    let s = c.args.state.now in
    let e = c.args.event in
    stepped_none s c.args.tallies.now e c.requires.1
    (refused_meets s e c.requires.0 _ (rw c.seat-at.ensures at c.in_default.ensures) (number_some c.in_default.field-0))

pub returns-in_default-clause-fault : goal.returns-in_default-clause-fault
returns-in_default-clause-fault c = rw (untouched c).admitted

pub returns-in_default-clause-state : goal.returns-in_default-clause-state
returns-in_default-clause-state c =
    sym (refused_state c.args.state.now c.args.event c.requires.0 _ (rw c.seat-at.ensures at c.in_default.ensures) (number_some c.in_default.field-0))

pub returns-in_default-clause-tallies : goal.returns-in_default-clause-tallies
returns-in_default-clause-tallies c = let t = untouched c in (t.same, t.sound)

-- ---- one that is accepted

-- the ruling is that of the record at the event's seat
record Judged (s : State) (e : Event) (k : ℕ) : Type 0 where
  meets : closes_met s e ≡ eqb e.kind 2
  own : k ≡ e.task

judged : (c : In-Ok) → Judged c.args.state.now c.args.event c.seat-at.result
judged c =
    let s = c.args.state.now in
    let e = c.args.event in
    let z = rw c.seat-at.ensures at c.in-Ok.ensures in
    record {
      meets = accepted_meets s e c.requires.0 _ z refl;
      own = c.seat-at.ensures ∙ own_seat s e c.requires.0 _ z refl;
    }

module _ {s : State} {e : Event} {k : ℕ} (j : Judged s e k) where
  -- a completion is a job met
  met : e.kind ≡ 2 → closes_met s e ≡ true
  met q = j.meets ∙ eq-eqb e.kind 2 q

pub overflow_sub-event : goal.overflow_sub-event
overflow_sub-event c =
    let s = c.args.state.now in
    let e = c.args.event in
    let j = judged (goal.at.overflow_sub-event c).In-Ok in
    subst (λ (k : ℕ). (record_at s k).last ≤ e.time) (sym j.own) (met_after s e c.requires.0 (met j c.if-event-eq-COMPLETION.true))

pub returns-in_err-tallies-clause-fault : goal.returns-in_err-tallies-clause-fault
returns-in_err-tallies-clause-fault c =
    let s = c.args.state.now in
    let ts = c.args.tallies.now in
    let e = c.args.event in
    let n = number_of c.in_err-tallies.field-0.0 in
    let j = judged (goal.at.returns-in_err-tallies-clause-fault c).In-Ok in
    let m = met j c.if-event-eq-COMPLETION.true in
    let h = subst (λ (k : ℕ). kept (tally_at ts k) n ≡ put_in (tally_at ts k) (e.time - (record_at s k).last)) j.own c.in_err-tallies.ensures in
    let p = err_from_is_err_and c.from_residual.result c.from_residual.ensures.1 in
    rw (p.1, p.2, stepped_refused s ts e c.requires.1 m (kept (tally_at ts e.task) n) h refl)
    (ap Err (number_tells c.in_err-tallies.field-0.0 NoFit (put_number (tally_at ts e.task) (response_at s e) n h)))

-- what is stored is what the event adds
stepped : (c : After-expire_all) → Stepped c.args.state.now c.args.tallies.now c.args.event c.args.state.now.count c.if-event-eq-COMPLETION.tallies
stepped c =
    let s = c.args.state.now in
    let ts = c.args.tallies.now in
    let e = c.args.event in
    let j = judged (goal.at.returns-clause-fault c).In-Ok in
    elim c.if-event-eq-COMPLETION.branch [
      | then-event-eq-COMPLETION+in_ok-tallies w ↦
          let x = w.in_ok-tallies.field-0 in
          let h = subst (λ (k : ℕ). accepted x ≡ put_in (tally_at ts k) (e.time - (record_at s k).last)) j.own w.in_ok-tallies.ensures in
          rw w.tallies-is (
          subst (λ (k : ℕ). Stepped s ts e s.count (record { row = set ts.row k x })) (sym j.own)
          (stepped_more s ts e c.requires.1 (met j w.if-event-eq-COMPLETION.true) (accepted x) h refl (search rules))
          )
      | else-event-eq-COMPLETION w ↦
          rw w.tallies-is (stepped_none s ts e c.requires.1 (j.meets ∙ ne_eqb e.kind 2 w.if-event-eq-COMPLETION.false))
    ]

pub returns-clause-fault : goal.returns-clause-fault
returns-clause-fault c = rw (stepped c).admitted

pub returns-clause-state : goal.returns-clause-state
returns-clause-state c =
    let s = c.args.state.now in
    let e = c.args.event in
    let z = rw c.seat-at.ensures at c.in-Ok.ensures in
    let x = rw c.seat-at.ensures at c.expire_all.ensures in
    sym (accepted_state s e c.requires.0 _ z refl c.expire_all.new.state (ap (λ (y : State). y.count) x) (ap (λ (y : State). y.clock) x)
    (ap (λ (y : State). y.records) x))

pub returns-clause-tallies : goal.returns-clause-tallies
returns-clause-tallies c = let t = stepped c in (t.same, t.sound)
