-- A completion that closes a job names it: no other event alters a record and completes, and this one was checked against the open job's number.
use Prim.Native.Nat.{ℕ}
use mathlib.Core.Path.{◌≡◌, sym, ◌∙◌}
use mathlib.Core.Bool.{true}
use native.Mathlib.Omega.{arith}
use borrow.Author.Tests.{eqb-true}
use lib.Dec.{eqb}
use Rattle.laws.proofs.Tests.{true_not_false, both_hold}
use Rattle.event_reading.specs.declared.Event.{Event}
use Rattle.event_reading.specs.Event.{a_completion}
use Rattle.task_steps.proofs.OwnSteps.{tick, release, completion, job_open}
use Rattle.state_rules.specs.declared.State.{State}
use Rattle.state_rules.specs.State.{record_at}
use Rattle.state_rules.specs.Sound.{StateSound}
use Rattle.apply_events.specs.Answer.{Applied}
use Rattle.apply_events.specs.Apply.{applied}
use Rattle.apply_events.proofs.Happened.{Happened, refusal, acceptance, happened}
use Rattle.run_histories.specs.History.{closes, completes}
use Rattle.run_histories.proofs.Closes.{closes_stays}
use Rattle.run_histories.proofs.Steps.{expired_same, is_open_lem}
use Rattle.run_histories.proofs.Taken.{passed}

pub named : (s : State) (e : Event) → StateSound s → (i : ℕ) → closes (record_at s i) (record_at (applied s e).state i) ≡ true → completes e i ≡ true
    → e.job ≡ (record_at s i).released
named s e g i c q = go (happened s e) c
  where
    kind : e.kind ≡ a_completion
    kind = eqb-true _ _ (both_hold (eqb e.kind a_completion) (eqb e.task i) q).0

    task : e.task ≡ i
    task = eqb-true _ _ (both_hold (eqb e.kind a_completion) (eqb e.task i) q).1

    go : {a : Applied} → Happened s e a → closes (record_at s i) (record_at a.state i) ≡ true → e.job ≡ (record_at s i).released
    go (refusal n z v) c = absurd (true_not_false (sym c ∙ closes_stays (record_at s i)))
    go (acceptance t h (tick k)) c = absurd (omega (arith, kind))
    go (acceptance t h (release k o)) c = absurd (omega (arith, kind))
    go (acceptance t h (completion k o)) c =
        rw task at (sym (is_open_lem (passed s e e.task) e.job (job_open (passed s e e.task) e o)).1
        ∙ (expired_same (record_at s e.task) e.time).released)
