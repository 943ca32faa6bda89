-- A log is tallied record by record: what is left of it, from the state and the tallies so far, gives what the whole gives, and refuses where it does.
use Prim.Native.Nat.{ℕ, ◌+◌}
use mathlib.Core.Path.{◌≡◌, sym, ap, ◌∙◌}
use mathlib.Core.Bool.{Bool, true, false}
use mathlib.Core.List.{List}
use native.Mathlib.Omega.{arith}
use lib.ListN.{drop}
use Rattle.event_reading.specs.declared.Event.{Event}
use Rattle.event_reading.specs.Reading as R
use Rattle.event_reading.specs.Record.{read_record}
use Rattle.event_logs.specs.Log.{events_of}
use Rattle.event_logs.specs.Ending.{ending_at}
use Rattle.event_logs.proofs.Logs.{events_more}
use Rattle.event_logs.proofs.Endings.{ending_none}
use Rattle.event_logs.proofs.Going.{Going, going_none, going_more, going_stop, going_ending}
use Rattle.state_rules.specs.declared.State.{State}
use Rattle.state_rules.specs.Sound.{StateSound}
use Rattle.apply_events.specs.Apply.{applied}
use Rattle.apply_events.specs.Log.{state_after}
use Rattle.apply_events.proofs.Frame.{count_stays}
use Rattle.apply_events.proofs.Kept.{applied_sound}
use Rattle.tally_rules.specs.Answer.{Accepted}
use Rattle.tally_rules.specs.declared.Tallies.{Tallies}
use Rattle.tally_histories.specs.Answer.{Reported, withheld}
use Rattle.tally_histories.specs.Events.{admits, tallies_after, all_admit}
use Rattle.tally_histories.specs.Sound.{TalliesSound, Beside}
use Rattle.tally_histories.specs.Report.{tally_log}
use Rattle.tally_runs.proofs.Stepped.{Stepped}

-- what is held between two events
pub record Held : Type 0 where
  pub state : State
  pub tallies : Tallies

abbrev pub held : State → Tallies → Held
held s ts = record { state = s; tallies = ts }

-- what events make of it: whether all fits, the state and the tallies after them
abbrev pub made : Held → List Event → Bool × (State × Tallies)
made h es = (all_admit h.state h.tallies es, (state_after h.state es, tallies_after h.state h.tallies es))

pub record Tallying (s : State) (ts : Tallies) (log : List ℕ) (next : State) (sums : Tallies) (from : ℕ) : Type 0 where
  pub going : Going made (held s ts) log 0 (held next sums) from
  pub sound : StateSound next
  pub tallies : TalliesSound sums next.count

module _ (s : State) (ts : Tallies) (log : List ℕ) where
  pub tallying_none : Beside s ts → Tallying s ts log s ts 0
  tallying_none b = record { going = going_none made (held s ts) log 0 (omega arith); sound = b.sound; tallies = b.tallies }

  module _ (next : State) (sums : Tallies) (from : ℕ) (g : Tallying s ts log next sums from) where
    pub tallying_more : (e : Event) (after : Tallies) → read_record (drop from log) ≡ R.Event e → Stepped next sums e next.count after
        → Tallying s ts log (applied next e).state after (from + 20)
    unfolding all_admit state_after tallies_after
    tallying_more e after q f =
        record {
          going =
              going_more made (held s ts) log 0 (held next sums) from g.going e (held (applied next e).state after) q
              (λ es. rw (f.admitted, f.same));
          sound = applied_sound next g.sound e;
          tallies = rw (count_stays next e) f.sound;
        }

    -- an addition that does not fit refuses the whole
    pub tallying_refused : (e : Event) → read_record (drop from log) ≡ R.Event e → admits next sums e ≡ false → tally_log s ts log ≡ withheld s ts 16
    unfolding all_admit
    tallying_refused e q f =
        let z : all_admit s ts (events_of log) ≡ false =
        ap (λ (x : Bool × (State × Tallies)). x.0) g.going.same ∙ rw (events_more (drop from log) e q, f) in
        rw z

    pub tallying_stop : ((e : Event) → read_record (drop from log) ≡ R.Event e → ⊥)
        → ◌≡◌ {A = Reported} (record { answer = Accepted; state = next; tallies = sums; ending = ending_at log from }) (tally_log s ts log)
    unfolding all_admit state_after tallies_after
    tallying_stop k =
        let t = going_stop made (held s ts) log 0 (held next sums) from g.going k in
        let d = going_ending made (held s ts) log 0 (held next sums) from g.going k in
        let z : all_admit s ts (events_of log) ≡ true = ap (λ (x : Bool × (State × Tallies)). x.0) t in
        let a = ap (λ (x : Bool × (State × Tallies)). x.1.0) t in
        let b = ap (λ (x : Bool × (State × Tallies)). x.1.1) t in
        let o = sym (ending_none log) ∙ d in
        rw (z, a, b, o)
