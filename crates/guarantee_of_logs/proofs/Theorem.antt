-- Demand 3 for bytes: every front of the log obeys the premise, so that `guarantee` holds after each of its events.
use Prim.Native.Nat.{ℕ, suc, ◌≤◌, ◌<◌}
use mathlib.Core.Path.{◌≡◌, sym, ◌∙◌}
use mathlib.Core.Bool.{true}
use mathlib.Core.List.{List}
use native.Mathlib.Nat.{le_refl}
use native.Mathlib.Omega.{arith}
use borrow.Author.Tests.{eqb-true}
use lib.Dec.{eqb}
use lib.ListN.{length}
use Rattle.laws.proofs.Tests.{both_hold}
use Rattle.event_reading.specs.declared.Event.{Event}
use Rattle.table_rules.specs.declared.Table.{Table}
use Rattle.table_rules.specs.Answers.{Accepted}
use Rattle.table_reading.specs.Table.{read_table}
use Rattle.event_logs.specs.Log.{events_of}
use Rattle.state_rules.specs.declared.State.{State}
use Rattle.state_rules.specs.State.{fresh_state}
use Rattle.bound_demand.specs.Above.{task_at}
use Rattle.bound_all.specs.Asked.{all_answer, bound_cell}
use Rattle.bound_all.proofs.Exactly.{all_accepted}
use Rattle.run_histories.specs.History.{run_state, closed_job, jobs_of}
use Rattle.run_histories.proofs.Reached.{reached}
use Rattle.guarantee.specs.Guarantee.{Good, Promise}
use Rattle.guarantee.proofs.Theorem.{guarantee}
use Rattle.guarantee_of_logs.specs.Places.{event_at, record_after}
use Rattle.guarantee_of_logs.specs.Premise.{LogObeys}
use Rattle.guarantee_of_logs.specs.Keeps.{closes_at, MetBy, LogKeeps}
use Rattle.guarantee_of_logs.specs.Guarantee.{GuaranteeOfLogs}
use Rattle.guarantee_of_logs.proofs.Places.{newest, newest_more, after_is, closes_is, outcomes_is}
use Rattle.guarantee_of_logs.proofs.Premise.{premise_to}
use Rattle.guarantee_of_logs.proofs.Named.{named}
use Rattle.guarantee_of_logs.proofs.Rows.{rows_within}

module _ (t : Table) (room : ℕ) (ok : all_answer t room ≡ Accepted) (es : List Event) (o : LogObeys (fresh_state t) es) (i : ℕ) (h : i < t.count) where
  abbrev s : State
  s = fresh_state t

  -- after the first n events
  promised : (n : ℕ) → n ≤ length es → Promise t s (newest es n) i
  promised n p = guarantee t room ok (newest es n) (premise_to s es n p (λ k q. o k (omega arith))) i h

  -- the job that event n closes
  good : (n : ℕ) → n < length es → closes_at s es i n ≡ true → Good (bound_cell t i) (closed_job (record_after s es n i) (event_at es n) i)
  unfolding jobs_of
  good n p c =
      let e = rw (newest_more es n p) at (promised (suc n) p).required in
      let f = rw (sym (closes_is s es n i p) ∙ c) at e in
      rw (after_is s es n) f.0

  met : (n : ℕ) → n < length es → closes_at s es i n ≡ true → (record_after s es n i).class ≡ 0
      → MetBy (bound_cell t i) (record_after s es n i) i (event_at es n)
  unfolding run_state
  met n p c k =
      let g = good n p c k in
      let b = both_hold (eqb (event_at es n).kind 2) (eqb (event_at es n).task i) g.0 in
      let fs = newest es n in
      let j = named (run_state s fs) (event_at es n) (reached t ((all_accepted t room).0 ok).0 fs).sound i (sym (closes_is s es n i p) ∙ c) g.0 in
      record { completion = eqb-true _ _ b.0; task = eqb-true _ _ b.1; job = rw (after_is s es n) j; soon = g.1 }

  kept : LogKeeps t s es i
  kept =
      record {
        required = met;
        rows = rw (outcomes_is s es i (length es) (le_refl _)) (rows_within (task_at t i) _ (promised (length es) (le_refl _)).windows.within);
        window = λ n p. rw (after_is s es n) (promised n p).windows.window;
        broken = λ n p. rw (after_is s es n) (promised n p).windows.broken;
      }

pub guarantee_of_logs : GuaranteeOfLogs
guarantee_of_logs table log room read ok o i h = kept (read_table table).table room ok (events_of log) o i h
