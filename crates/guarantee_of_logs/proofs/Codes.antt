-- What the C function answers for the first n records is the choice after n events, or the refusal of the last: the first 20 n bytes read whole as these
-- events, and the code of a log is that of its last event.
use Prim.Native.Nat.{ℕ, zero, suc, ◌*◌, min, ◌≤◌, ◌<◌}
use mathlib.Core.Path.{◌≡◌, refl, sym, ap, subst, ◌∙◌}
use mathlib.Core.Bool.{Bool, true, false, cond}
use mathlib.Core.List.{List, [], ◌∷◌, ◌++◌}
use mathlib.Core.Logic.{◌↔◌}
use native.Mathlib.Omega.{arith}
use lib.ListN.{length, take}
use lib.Seq.{take-suc, length-take-le}
use Rattle.laws.proofs.Tests.{by_test, true_not_false, tells_true}
use Rattle.table_rules.specs.Answers.{Accepted}
use Rattle.table_reading.specs.Table.{read_table}
use Rattle.event_reading.specs.declared.Event.{Event}
use Rattle.event_logs.specs.Log.{readable, events_of}
use Rattle.event_logs.proofs.Records.{readable-fits}
use Rattle.event_logs.specs.Stops as E
use Rattle.event_logs.specs.Ending.{ending_of}
use Rattle.event_logs.proofs.Rests.{rest_end}
use Rattle.event_logs.proofs.Endings.{ending_whole}
use Rattle.event_logs.proofs.Logs.{events_length}
use Rattle.state_rules.specs.declared.State.{State}
use Rattle.state_rules.specs.State.{record_at}
use Rattle.state_rules.specs.Sound.{StateSound}
use Rattle.state_rules.specs.Choice.{chosen}
use Rattle.state_rules.proofs.Sounding.{state_tells}
use Rattle.state_choice.proofs.Least.{found_below}
use Rattle.apply_events.specs.Answer.{Answer}
use Rattle.apply_events.specs.Answer as A
use Rattle.apply_events.specs.Apply.{answer_of, applied}
use Rattle.apply_events.specs.Log.{standing, ran}
use Rattle.apply_events.proofs.Runs.{ran_by}
use Rattle.apply_events.proofs.After.{after_sound}
use Rattle.run_histories.specs.History.{accepts}
use Rattle.run_histories.proofs.Taken.{refused_stays, answers_choice}
use Rattle.rig_codes.specs.Code.{code_for, of_answer, code_of, begins}
use Rattle.rig_codes.specs.Given.{Begun, Whole, last}
use Rattle.rig_codes.proofs.Starts.{begins_sound, begins_idle}
use Rattle.rig_codes.proofs.Exactly.{given_exactly}
use Rattle.rig_codes.proofs.Told.{empty_log}
use Rattle.guarantee_of_logs.specs.Places.{event_at, after_first, accepted_at}
use Rattle.guarantee_of_logs.specs.Bytes.{BothRead}
use Rattle.guarantee_of_logs.specs.Codes.{code_after, choice_code, CodeTells, at_first, last_accepted, last_refused, CodesOfLogs}
use Rattle.guarantee_of_logs.proofs.Places.{after_more}
use Rattle.guarantee_of_logs.proofs.Fronts.{front_events, front_whole}

-- ---- an answer and its code

choice_code_lem : (s : State) → code_for (of_answer (answer_of s)) ≡ choice_code s
choice_code_lem s = go (chosen s).found
  where
    go : (b : Bool) → code_for (of_answer (cond b (A.Run (chosen s).at (record_at s (chosen s).at).class) A.Idle)) ≡ cond b (chosen s).at 16
    go true = refl
    go false = refl

module _ (s : State) (es : List Event) (g : StateSound s) (n : ℕ) (h : n < length es) where
  abbrev here : State
  here = after_first s es n

  abbrev answer : Answer
  answer = (applied here (event_at es n)).answer

  sound : StateSound here
  sound = after_sound s (take n es) g

  taken : accepted_at s es n ≡ true → CodeTells s es (suc n) (code_for (of_answer answer))
  taken a =
      let c = answers_choice here (event_at es n) sound a in
      let q =
      ap (λ (x : Answer). code_for (of_answer x)) c
      ∙ choice_code_lem (applied here (event_at es n)).state ∙ ap choice_code (sym (after_more s es n h)) in
      subst (CodeTells s es (suc n)) (sym q) (last_accepted n a)

  told : CodeTells s es (suc n) (code_for (of_answer answer))
  told = go answer refl
    where
      go : (a : Answer) → answer ≡ a → CodeTells s es (suc n) (code_for (of_answer answer))
      go (A.Run p c) q = taken (ap accepts q)
      go A.Idle q = taken (ap accepts q)
      go (A.Refused k) q =
          subst (CodeTells s es (suc n)) (sym (ap (λ (x : Answer). code_for (of_answer x)) q))
          (last_refused n k q (after_more s es n h ∙ refused_stays here (event_at es n) sound (ap accepts q)))

-- ---- the first 20 n bytes

module _ (table log : List ℕ) (read : (read_table table).answer ≡ Accepted) (size : length log ≤ 65536) where
  front_code : (n : ℕ) → n < readable log
      → code_after table log (suc n) ≡ code_for (of_answer (applied (after_first (begins table) (events_of log) n) (event_at (events_of log) n)).answer)
  unfolding code_of
  front_code n h =
      let es = events_of log in
      let x = take (20 * suc n) log in
      let l : length x ≡ 20 * suc n = length-take-le (20 * suc n) log (omega (arith, readable-fits log)) in
      let b : Begun table x = record { within = omega (arith, readable-fits log); tabled = read } in
      let w : Whole table x = record { begun = b; ended = front_whole (suc n) log h } in
      let q : events_of x ≡ take n es ++ (event_at es n ∷ []) = front_events (suc n) log h ∙ take-suc es n _ (rw (events_length log) h) in
      ap code_for ((given_exactly table x _).1 (last w (take n es) (event_at es n) q))

-- a log that reads whole has an event for each 20 bytes
pub whole_count : (log : List ℕ) → ending_of log ≡ E.Whole → 20 * length (events_of log) ≡ length log
whole_count log w = rw (events_length log) ((rest_end log).0 ((ending_whole log).0 w))

pub codes_of_logs : CodesOfLogs
codes_of_logs table log read size zero h =
    subst (CodeTells (begins table) (events_of log) 0) (sym (empty_log table read.tabled)) (at_first (begins_idle table read.tabled))
codes_of_logs table log read size (suc n) h =
    let k : n < length (events_of log) = omega (arith, whole_count log read.whole) in
    subst (CodeTells (begins table) (events_of log) (suc n)) (sym (front_code table log read.tabled size n (rw (events_length log) at k)))
    (told (begins table) (events_of log) (begins_sound table read.tabled) n k)

-- the state that `apply_engine::log::run` leaves by the first n records is the one after n events
pub ran_front : (table log : List ℕ) → BothRead table log → (n : ℕ) → 20 * n ≤ length log
    → (ran (begins table) (take (20 * n) log)).state ≡ after_first (begins table) (events_of log) n
unfolding ran
ran_front table log read n h =
    let s = begins table in
    let k : n ≤ length (events_of log) = omega (arith, whole_count log read.whole) in
    rw (tells_true (state_tells s) (begins_sound table read.tabled), front_events n log (rw (events_length log) at k))
    (sym (ran_by (standing s) (take n (events_of log))))

-- ---- what a caller reads off a code

pub choice_small : (s : State) → choice_code s ≤ 16
choice_small s =
    by_test (λ (c : ℕ). c ≤ 16) (chosen s).found (chosen s).at 16 (λ f. omega (arith, found_below s.records (min s.count 16) f)) (λ f. omega arith)

-- an event is accepted exactly when the code after it is below 32
pub code_accepts : (s : State) (es : List Event) {n c : ℕ} → CodeTells s es (suc n) c → (accepted_at s es n ≡ true) ↔ (c < 32)
code_accepts s es (last_accepted n a) = (λ q. omega (arith, choice_small (after_first s es (suc n))), λ q. a)
code_accepts s es (last_refused n k r z) = (λ q. absurd (true_not_false (sym q ∙ ap accepts r)), λ q. absurd (omega arith))

-- a position is the code exactly when its job is the choice
pub code_chosen : (s : State) (i : ℕ) → i < 16 → (choice_code s ≡ i) ↔ (((chosen s).found ≡ true) × ((chosen s).at ≡ i))
code_chosen s i h = (go (chosen s).found refl, λ p. rw (p.0, p.1))
  where
    go : (b : Bool) → (chosen s).found ≡ b → cond b (chosen s).at 16 ≡ i → ((chosen s).found ≡ true) × ((chosen s).at ≡ i)
    go true f q = (f, q)
    go false f q = absurd (omega arith)
