-- A log is applied record by record: what is left of it, applied to the state so far, gives what the whole gives. A sound state stays
-- sound, so that the work may be done without another test.
use Prim.Native.Nat.{ℕ, ◌+◌}
use mathlib.Core.Path.{◌≡◌, refl, ◌∙◌}
use mathlib.Core.List.{List, [], ◌∷◌}
use mathlib.Core.Logic.{◌↔◌}
use native.Mathlib.Omega.{arith}
use lib.ListN.{drop}
use Rattle.laws.proofs.Tests.{tells_true, tells_false}
use Rattle.event_reading.specs.declared.Event.{Event}
use Rattle.event_reading.specs.Reading as R
use Rattle.event_reading.specs.Record.{read_record}
use Rattle.event_logs.specs.Log.{events_of}
use Rattle.event_logs.specs.Ending.{ending_at, ending_of, ending_from, end_said}
use Rattle.event_logs.proofs.Logs.{events_more, events_none}
use Rattle.event_logs.proofs.Endings.{ending_none, ending_more, ending_stop, ending_most}
use Rattle.event_logs.proofs.Going.{Going, going_none, going_more, going_stop, going_ending}
use Rattle.state_rules.specs.declared.State.{State}
use Rattle.state_rules.specs.Sound.{StateSound}
use Rattle.state_rules.proofs.Sounding.{state_tells}
use Rattle.apply_events.specs.Answer.{Applied}
use Rattle.apply_events.specs.Apply.{applied}
use Rattle.apply_events.specs.Log.{standing, ran_over, state_after, ended_with, ran}
use Rattle.apply_events.proofs.Kept.{applied_sound}

-- the state after some events is that of the run over them, whatever was answered before
pub ran_by : (a : Applied) (es : List Event) → state_after a.state es ≡ (ran_over a es).state
unfolding state_after ran_over
ran_by a [] = refl
ran_by a (e ∷ es) = ran_by (applied a.state e) es

-- 15 ends the reading exactly where the state is not sound: what does not read has 5 to 8
pub ran_15 : (s : State) (log : List ℕ) → (end_said (ran s log).ending).number ≡ 15 ↔ (StateSound s → ⊥)
unfolding ran
ran_15 s log = (
  λ q p. absurd (omega (arith, ending_most log, rw (tells_true (state_tells s) p) at q)),
  λ k. rw (tells_false (state_tells s) k),
)

-- a log by what its front reads as
module _ (s : State) (log : List ℕ) (p : StateSound s) where
  pub ran_sound : ran s log ≡ ended_with (ran_over (standing s) (events_of log)) (ending_of log)
  unfolding ran
  ran_sound = rw (tells_true (state_tells s) p)

  pub ran_stands : ((e : Event) → read_record log ≡ R.Event e → ⊥) → ran s log ≡ ended_with (standing s) (ending_at log 0)
  unfolding ran_over
  ran_stands k = ran_sound ∙ rw (events_none log k, ← ending_none log, ending_stop log 0 k)

  pub ran_first : (e : Event) → read_record log ≡ R.Event e
      → ran s log ≡ ended_with (ran_over (applied s e) (events_of (drop 20 log))) (ending_from log 20)
  unfolding ran_over
  ran_first e q = ran_sound ∙ rw (events_more log e q, ← ending_none log, ending_more log 0 e q)

-- at a place of the log, with what the events before it did
pub record Running (s : State) (log : List ℕ) (a : Applied) (from : ℕ) : Type 0 where
  pub going : Going ran_over (standing s) log 0 a from
  pub sound : StateSound a.state

module _ (s : State) (log : List ℕ) (p : StateSound s) where
  pub running_none : Running s log (standing s) 0
  running_none = record { going = going_none ran_over (standing s) log 0 (omega arith); sound = p }

  module _ (a : Applied) (from : ℕ) (g : Running s log a from) where
    pub running_more : (e : Event) → read_record (drop from log) ≡ R.Event e → Running s log (applied a.state e) (from + 20)
    unfolding ran_over
    running_more e q =
        record {
          going = going_more ran_over (standing s) log 0 a from g.going e (applied a.state e) q (λ es. refl);
          sound = applied_sound a.state g.sound e;
        }

    -- where the next record does not read, that is all
    pub running_stop : ((e : Event) → read_record (drop from log) ≡ R.Event e → ⊥) → ran s log ≡ ended_with a (ending_at log from)
    unfolding ran_over
    running_stop k =
        let l = going_stop ran_over (standing s) log 0 a from g.going k in
        let d = going_ending ran_over (standing s) log 0 a from g.going k in
        ran_sound s log p ∙ rw (← ending_none log, l, d)
