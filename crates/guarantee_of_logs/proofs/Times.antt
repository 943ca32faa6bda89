-- The chosen time of a task's last job is counted off the C function's answers, and with it the premise: the states that stand from its release on have its
-- number, and those before it a smaller one. By induction on the events.
use Prim.Native.Nat.{ℕ, zero, suc, ◌+◌, ◌*◌, min, ◌≤◌, ◌<◌}
use mathlib.Core.Path.{◌≡◌, refl, sym, ap, subst, ◌∙◌}
use mathlib.Core.Bool.{Bool, true, false, cond}
use mathlib.Core.List.{List}
use mathlib.Core.Logic.{◌↔◌}
use native.Mathlib.Decide.{dec_le}
use native.Mathlib.Omega.{arith}
use borrow.Author.Tests.{le-leb, lt-leb, eq-eqb, ne_eqb}
use lib.Dec.{eqb, leb}
use lib.ListN.{length}
use Rattle.laws.specs.Numbers.{one_if}
use Rattle.laws.proofs.Sums.{total_same}
use Rattle.laws.proofs.Tests.{same_test, cond_same}
use Rattle.event_reading.specs.declared.Event.{Event}
use Rattle.table_rules.specs.declared.Table.{Table}
use Rattle.table_rules.specs.Answers.{Accepted}
use Rattle.table_rules.specs.Judging.{judged}
use Rattle.table_reading.specs.Table.{read_table}
use Rattle.table_reading.proofs.Given.{read_good}
use Rattle.event_logs.specs.Log.{events_of}
use Rattle.task_records.specs.declared.Record.{Record}
use Rattle.task_records.specs.Closing.{closed}
use Rattle.task_steps.specs.Opening.{opened}
use Rattle.task_steps.specs.Own.{reopened}
use Rattle.task_steps.proofs.OwnSteps.{Step, tick, release, completion}
use Rattle.state_rules.specs.declared.State.{State}
use Rattle.state_rules.specs.State.{record_at, fresh_state}
use Rattle.state_rules.specs.Sound.{StateSound}
use Rattle.state_rules.specs.Choice.{chosen}
use Rattle.apply_events.specs.Answer.{Applied}
use Rattle.apply_events.specs.Apply.{applied}
use Rattle.apply_events.proofs.Happened.{Happened, refusal, acceptance, happened}
use Rattle.apply_events.proofs.Places.{places, stored_place}
use Rattle.apply_events.specs.Log.{state_after}
use Rattle.run_histories.proofs.Steps.{closed_same, cleared_same, expired_same}
use Rattle.run_histories.proofs.Taken.{passed, refused_stays}
use Rattle.run_histories.proofs.Reached.{Reached, reached}
use Rattle.guarantee.specs.ChosenTime.{is_choice}
use Rattle.rig_codes.proofs.Starts.{begins_sound}
use Rattle.guarantee_of_logs.specs.Places.{event_at, after_first, record_after, accepted_at}
use Rattle.guarantee_of_logs.specs.ChosenTime.{standing_at, chosen_after, open_after}
use Rattle.guarantee_of_logs.specs.Premise.{LogObeys}
use Rattle.rig_codes.specs.Code.{begins}
use Rattle.guarantee_of_logs.specs.Bytes.{BothRead}
use Rattle.guarantee_of_logs.specs.Codes.{choice_code, code_after}
use Rattle.guarantee_of_logs.specs.CodeTime.{standing_code, code_time, CodesObey, AnswersOfLogs}
use Rattle.guarantee_of_logs.specs.Guarantee.{GuaranteeByAnswers}
use Rattle.guarantee_of_logs.proofs.Places.{newest, after_is, after_more}
use Rattle.guarantee_of_logs.proofs.Codes.{whole_count, codes_of_logs, code_accepts}
use Rattle.guarantee_of_logs.proofs.Standing.{accepted_clock, again, choice_stands}
use Rattle.guarantee_of_logs.proofs.Theorem.{guarantee_of_logs}

-- ---- what an event does to a task's last release and its number

module _ (q : State) (e : Event) (g : StateSound q) (i : ℕ) (h : i < q.count) where
  data Numbers (r : Record) : Type 0 where
    stays : r.last ≡ (record_at q i).last → r.released ≡ (record_at q i).released → Numbers r
    rises : r.last ≡ e.time → r.released ≡ suc (record_at q i).released → Numbers r

  -- step 1 alone
  passing : Numbers (passed q e i)
  passing = let p = expired_same (record_at q i) e.time in stays p.last p.released

  releasing : Numbers (reopened (passed q e i) e.time)
  unfolding opened
  releasing =
      let c = (cleared_same (passed q e i)).released ∙ (expired_same (record_at q i) e.time).released in
      rises refl (omega (arith, c, (g.each i h).spaced, (g.each i h).past, g.clock))

  completing : Numbers (closed (passed q e i) true)
  completing =
      let p = expired_same (record_at q i) e.time in
      let c = closed_same (passed q e i) true in
      stays (c.last ∙ p.last) (c.released ∙ p.released)

  numbers : Numbers (record_at (applied q e).state i)
  numbers = go (happened q e)
    where
      own : {x : Record} → Step (passed q e i) e x → Numbers x
      own (tick k) = passing
      own (release k f) = releasing
      own (completion k f) = completing

      go : {a : Applied} → Happened q e a → Numbers (record_at a.state i)
      go (refusal n z v) = stays refl refl
      go (acceptance {x} t c o) =
          stored_place q e.time e.task x Numbers (places q g) c i h (λ z. own (subst (λ (j : ℕ). Step (passed q e j) e x) (sym z) o)) (λ z. passing)

-- ---- the number in the state that stands at tick y

-- from the release of the record's last job on it is that job's, and before it a smaller one
record Since (r : Record) (i y : ℕ) (q : State) : Type 0 where
  from : r.last ≤ y → (record_at q i).released ≡ r.released
  before : y < r.last → (record_at q i).released < r.released

module _ (t : Table) (good : judged t ≡ Accepted) (es : List Event) (i : ℕ) (h : i < t.count) (y : ℕ) where
  abbrev s : State
  s = fresh_state t

  abbrev Told : ℕ → State → Type 0
  Told n q = Since (record_after s es n i) i y q

  come : (n : ℕ) → Reached t (after_first s es n)
  come n = rw (after_is s es n) (reached t good (newest es n))

  module _ (n : ℕ) (l : n < length es) (f : Told n (standing_at s es n y)) where
    abbrev here : State
    here = after_first s es n

    below : i < here.count
    below = rw (come n).count h

    abbrev Number : Record → Type 0
    Number r = Numbers here (event_at es n) (come n).sound i below r

    number : Number (record_after s es (suc n) i)
    number = rw (after_more s es n l) (numbers here (event_at es n) (come n).sound i below)

    -- the clock has passed the tick: the states before decide
    earlier : (after_first s es (suc n)).clock ≡ (event_at es n).time → y < (after_first s es (suc n)).clock → Told (suc n) (standing_at s es n y)
    earlier c k = go number
      where
        go : Number (record_after s es (suc n) i) → Told (suc n) (standing_at s es n y)
        go (stays a b) = record { from = λ p. f.from (omega arith) ∙ sym b; before = λ p. rw b (f.before (omega arith)) }
        go (rises a b) = record { from = λ p. absurd (omega arith); before = λ p. rw b (less (dec_le (record_after s es n i).last y)) }
          where
            less : Dec ((record_after s es n i).last ≤ y) → (record_at (standing_at s es n y) i).released < suc (record_after s es n i).released
            less (yes p) = omega (arith, f.from p)
            less (no p) = omega (arith, f.before (omega arith))

    accepted : accepted_at s es n ≡ true → Told (suc n) (standing_at s es (suc n) y)
    unfolding standing_at
    accepted a =
        let c = ap (λ (x : State). x.clock) (after_more s es n l) ∙ accepted_clock here (event_at es n) (come n).sound a in
        go (dec_le (after_first s es (suc n)).clock y) c
      where
        go : Dec ((after_first s es (suc n)).clock ≤ y) → (after_first s es (suc n)).clock ≡ (event_at es n).time
            → Told (suc n) (cond (leb (after_first s es (suc n)).clock y) (after_first s es (suc n)) (standing_at s es n y))
        go (yes p) c =
            let past = ((come (suc n)).sound.each i (rw (come (suc n)).count h)).past in
            rw (le-leb _ _ p) (record { from = λ z. refl; before = λ z. absurd (omega (arith, past)) })
        go (no p) c = rw (lt-leb (after_first s es (suc n)).clock y (omega arith)) (earlier c (omega arith))

    refused : accepted_at s es n ≡ false → Told (suc n) (standing_at s es (suc n) y)
    unfolding standing_at
    refused a =
        let z = after_more s es n l ∙ refused_stays here (event_at es n) (come n).sound a in
        let w : standing_at s es (suc n) y ≡ standing_at s es n y = rw (z, again s es y n) in
        subst (λ (x : State). Since (record_at x i) i y (standing_at s es (suc n) y)) (sym z) (subst (Told n) (sym w) f)

  since : (n : ℕ) → n ≤ length es → Told n (standing_at s es n y)
  unfolding standing_at state_after
  since zero l = record { from = λ p. refl; before = λ p. absurd (omega (arith, ((come 0).sound.each i h).past)) }
  since (suc n) l = go (accepted_at s es n) refl (since n (omega arith))
    where
      go : (b : Bool) → accepted_at s es n ≡ b → Told n (standing_at s es n y) → Told (suc n) (standing_at s es (suc n) y)
      go true a f = accepted n l f a
      go false a f = refused n l f a

-- ---- one tick, and all of them

tick_is : (q : State) (i j r y c : ℕ) → i < 16 → choice_code q ≡ c → (r ≤ y → (record_at q i).released ≡ j) → (y < r → (record_at q i).released < j)
    → is_choice q i j ≡ cond (leb r y) (eqb c i) false
tick_is q i j r y c h k from before = go (dec_le r y)
  where
    by_found : (b : Bool) → cond b (cond (eqb (chosen q).at i) true false) false ≡ eqb (cond b (chosen q).at 16) i
    by_found true = same_test (eqb (chosen q).at i)
    by_found false = sym (ne_eqb 16 i (λ z. omega arith))

    go : Dec (r ≤ y) → is_choice q i j ≡ cond (leb r y) (eqb c i) false
    go (yes p) = rw (le-leb r y p, eq-eqb (record_at q i).released j (from p), ← k) (by_found (chosen q).found)
    go (no p) =
        rw (lt-leb r y (omega arith), ne_eqb (record_at q i).released j (λ z. omega (arith, before (omega arith))))
        (rw (cond_same (eqb (chosen q).at i) false) (cond_same (chosen q).found false))

module _ (table log : List ℕ) (read : BothRead table log) (size : length log ≤ 65536) where
  abbrev start : State
  start = begins table

  abbrev events : List Event
  events = events_of log

  time_is : (n i x : ℕ) → 20 * n ≤ length log → i < start.count → open_after start events n i x ≡ code_time table log n i x
  unfolding chosen_after code_time
  time_is n i x h b =
      let r = record_after start events n i in
      let good = read_good table read.tabled in
      total_same _ _ (min x (r.last + r.task.d))
      (λ y p.
      let f = since (read_table table).table good events i b y n (omega (arith, whole_count log read.whole)) in
      let few = (begins_sound table read.tabled).counted.most in
      ap one_if
      (tick_is (standing_at start events n y) i r.released r.last y (standing_code table log n y) (omega arith)
      (choice_stands table log read size n y h) f.from f.before))

  accepted_is : (n : ℕ) → 20 * suc n ≤ length log → (accepted_at start events n ≡ true) ↔ (code_after table log (suc n) < 32)
  accepted_is n h = code_accepts start events (codes_of_logs table log read size (suc n) h)

  obeyed_is : LogObeys start events ↔ CodesObey table log
  obeyed_is = (
    λ o n h a i x b l c. o n (omega (arith, counted)) ((accepted_is n h).1 a) i x b l (rw (time_is n i x (omega arith) b) c),
    λ o n h a i x b l c.
        let k : 20 * suc n ≤ length log = omega (arith, counted) in
        o n k ((accepted_is n k).0 a) i x b l (rw (time_is n i x (omega arith) b) at c),
  )
    where
      counted : 20 * length events ≡ length log
      counted = whole_count log read.whole

pub answers_of_logs : AnswersOfLogs
answers_of_logs table log read size =
    record { choices = choice_stands table log read size; times = time_is table log read size; premise = obeyed_is table log read size }

pub guarantee_by_answers : GuaranteeByAnswers
guarantee_by_answers table log room read size ok o = guarantee_of_logs table log room read ok ((obeyed_is table log read size).1 o)
