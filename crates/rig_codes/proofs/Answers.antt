-- What an event of a log can be answered in a run: one of the tasks, none, or 9 to 12. 15 is out because every event keeps a sound state sound, 7 and 8
-- because what reads obeys the rules.
use Prim.Native.Nat.{ℕ, ◌^◌, min, ◌≤◌, ◌<◌}
use mathlib.Core.Path.{◌≡◌, refl, subst, ◌∙◌}
use mathlib.Core.Bool.{true}
use mathlib.Core.List.{List, [], ◌∷◌}
use native.Mathlib.Omega.{arith}
use lib.Dec.{lit<}
use Rattle.laws.proofs.Tests.{by_test, tells_true}
use Rattle.event_reading.specs.declared.Event.{Event}
use Rattle.event_reading.specs.Event.{fault_of}
use Rattle.event_logs.specs.Log.{events_in, events_of}
use Rattle.event_reading.proofs.Rules.{judge_0}
use Rattle.event_logs.proofs.Records.{by_records}
use Rattle.state_rules.specs.declared.State.{State}
use Rattle.state_rules.specs.Sound.{StateSound, state_holds}
use Rattle.state_rules.specs.Choice.{chosen}
use Rattle.state_choice.proofs.Least.{found_below}
use Rattle.state_rules.proofs.Sounding.{state_tells}
use Rattle.apply_events.specs.Answer.{Answer, Applied, Ran}
use Rattle.apply_events.specs.Answer as A
use Rattle.apply_events.specs.Apply.{answer_of, applied}
use Rattle.apply_events.specs.Verdict.{Verdict, unsound, unruled, untimely, no_task_lem, too_soon_lem, no_job, ticks, releases, completes}
use Rattle.apply_events.specs.Log.{standing, ran_over, ran}
use Rattle.apply_events.proofs.Happened.{Happened, refusal, acceptance, happened}
use Rattle.apply_events.proofs.Frame.{count_stays}
use Rattle.apply_events.proofs.Kept.{applied_sound}
use Rattle.rig_codes.specs.Code.{code_for, of_answer}

-- what an event that reads is answered in a run of n tasks: one of them, none, or 9 to 12
abbrev pub InRun : ℕ → Answer → Type 0
InRun n (A.Run p c) = p < n
InRun n A.Idle = Unit
InRun n (A.Refused k) = (9 ≤ k) × (k ≤ 12)

answer_said_lem : (s : State) → InRun s.count (answer_of s)
answer_said_lem s =
    by_test (InRun s.count) (chosen s).found _ _ (λ f. let b = found_below s.records (min s.count 16) f in omega (arith, b)) (λ f. tt)

-- ---- one event

-- 7, 8 and 15 are out, so the row is one of 9 to 12
row_said_lem : (s : State) (e : Event) → StateSound s → fault_of e ≡ 0 → {n : ℕ} → Verdict s e n → (n ≡ 0 → ⊥) → InRun s.count (A.Refused n)
row_said_lem s e p z (unsound q) k = absurd (q p)
row_said_lem s e p z (unruled g q) k = absurd (q z)
row_said_lem s e p z (untimely g q t) k = omega arith
row_said_lem s e p z (no_task_lem h q c) k = omega arith
row_said_lem s e p z (too_soon_lem h q c f) k = omega arith
row_said_lem s e p z (no_job h q r c f) k = omega arith
row_said_lem s e p z (ticks h q) k = absurd (k refl)
row_said_lem s e p z (releases h q c f) k = absurd (k refl)
row_said_lem s e p z (completes h q r c f) k = absurd (k refl)

applied_said : (s : State) (e : Event) → StateSound s → fault_of e ≡ 0 → InRun s.count (applied s e).answer
applied_said s e p z = go (happened s e)
  where
    go : {a : Applied} → Happened s e a → InRun s.count a.answer
    go (refusal n k v) = row_said_lem s e p z v k
    go {a} (acceptance h c o) = answer_said_lem a.state

-- ---- the events of a log

AllRuled : List Event → Type 0
AllRuled [] = Unit
AllRuled (e ∷ es) = (fault_of e ≡ 0) × AllRuled es

all_ruled : (log : List ℕ) → AllRuled (events_of log)
unfolding AllRuled events_in
all_ruled =
    by_records (λ s. AllRuled (events_of s)) (λ s t. rw t.none tt)
    (λ s g h. rw g.counts ((judge_0 _).1 g.ruled, h))

over_said : (n : ℕ) (a : Applied) (es : List Event) → AllRuled es → StateSound a.state → a.state.count ≡ n → InRun n a.answer
    → InRun n (ran_over a es).answer
unfolding ran_over AllRuled
over_said n a [] r s q p = p
over_said n a (e ∷ es) r s q p =
    over_said n (applied a.state e) es r.1 (applied_sound a.state s e) (count_stays a.state e ∙ q)
    (subst (λ k. InRun k (applied a.state e).answer) q (applied_said a.state e s r.0))

pub ran_said : (s : State) (log : List ℕ) → StateSound s → InRun s.count (ran s log).answer
unfolding ran
ran_said s log p = rw (tells_true (state_tells s) p) (over_said s.count (standing s) (events_of log) (all_ruled log) p refl (answer_said_lem s))

-- one of n tasks is one of 16
pub said_16 : (n : ℕ) (a : Answer) → n ≤ 16 → InRun n a → InRun 16 a
said_16 n (A.Run p c) l h = omega arith
said_16 n A.Idle l h = tt
said_16 n (A.Refused k) l h = h

-- the code of a log's last answer is a number of 32 bits, whatever the state: one that is not sound is answered 15
pub ran-fits : (s : State) (log : List ℕ) → code_for (of_answer (ran s log).answer) < 2 ^ 32
unfolding ran
ran-fits s log = by_test (λ (r : Ran). code_for (of_answer r.answer) < 2 ^ 32) (state_holds s) _ _ sound (λ e. lit< tt)
  where
    small : (a : Answer) → InRun 16 a → code_for (of_answer a) < 2 ^ 32
    small (A.Run p c) h = omega arith
    small A.Idle h = lit< tt
    small (A.Refused k) h = omega arith

    sound : state_holds s ≡ true → code_for (of_answer (ran_over (standing s) (events_of log)).answer) < 2 ^ 32
    sound e =
        let p = (state_tells s).holds e in
        let a = (ran_over (standing s) (events_of log)).answer in
        small a (said_16 s.count a p.counted.most (over_said s.count (standing s) (events_of log) (all_ruled log) p refl (answer_said_lem s)))
