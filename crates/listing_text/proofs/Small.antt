-- The numbers in a listing are small: positions, numbers, classes and thresholds have at most two digits, since tables obey their rules and states are sound.
use Prim.Native.Nat.{ℕ, ◌+◌, ◌-◌, ◌/◌, min, ◌≤◌, ◌<◌}
use mathlib.Core.Path.{◌≡◌, refl, sym, ◌∙◌}
use mathlib.Core.Bool.{Bool, true, false, cond}
use mathlib.Core.List.{List}
use native.Mathlib.Decide.{ℕ_discrete}
use native.Mathlib.Omega.{arith}
use borrow.Author.Tests.{eq-eqb, ne_eqb, lt-ltb}
use lib.Count.{ones-le}
use lib.Dec.{eqb, ltb}
use lib.ListN.{length, replicate}
use Rattle.laws.proofs.Numbers.{ceiling_small}
use Rattle.laws.proofs.Stores.{filled_below}
use Rattle.laws.proofs.Tests.{impossible, by_test}
use Rattle.table_rules.specs.Answers.{Accepted, Refused}
use Rattle.table_rules.specs.declared.Table.{Table}
use Rattle.table_rules.specs.declared.Task.{Task}
use Rattle.table_rules.specs.Judging.{first_fault, judged}
use Rattle.table_rules.specs.Rules.{Misses, task_fault}
use Rattle.task_thresholds.specs.Thresholds.{w_of, h_of, top_of}
use Rattle.table_rules.proofs.Exactly.{judged_accepted}
use Rattle.table_rules.proofs.Faults.{found_then}
use Rattle.task_thresholds.proofs.Paper.{w_small, h_some}
use Rattle.table_rules.proofs.Ruling.{fault_none}
use Rattle.table_reading.specs.Table.{bytes_at, record_fault_at, bytes_hold, read_answer, read_table}
use Rattle.table_reading.proofs.Exactly.{whole_tells, length_at}
use Rattle.table_reading.proofs.Records.{record_among}
use Rattle.table_reading.proofs.Given.{answer_is}
use Rattle.std.specs.Prelude.{Option, Some, None}
use Rattle.bound_demand.specs.Above.{task_at}
use Rattle.bound_search.specs.Bound.{bound_of}
use Rattle.bound_search.proofs.Meets.{bound_is}
use Rattle.bound_one.specs.Bound.{Bound}
use Rattle.bound_one.specs.Asked.{or_thirteen, one_answer}
use Rattle.event_reading.specs.declared.Event.{Event}
use Rattle.event_reading.specs.Event.{last_kind, zeroes, fault_of}
use Rattle.task_levels.proofs.Needs.{level_told}
use Rattle.task_records.specs.declared.Record.{Record}
use Rattle.task_steps.specs.Opening.{fresh, no_record}
use Rattle.task_records.specs.Window.{window_of}
use Rattle.task_soundness.specs.Counts.{open_of}
use Rattle.task_soundness.specs.Sound.{Sound}
use Rattle.task_soundness.proofs.Kept.{fresh_sound}
use Rattle.state_choice.specs.Best.{Best}
use Rattle.state_rules.specs.declared.State.{State}
use Rattle.state_choice.specs.Choice.{best_to}
use Rattle.state_rules.specs.Sound.{limit, StateSound}
use Rattle.state_rules.specs.State.{fresh_state, record_at}
use Rattle.state_choice.proofs.Least as Least
use Rattle.state_choice.proofs.Least.{best_is}
use Rattle.apply_events.specs.Answer.{Answer as Said, Applied}
use Rattle.apply_events.specs.Apply.{answer_of, applied}
use Rattle.apply_events.specs.Verdict.{Verdict, unsound, unruled, untimely, no_task_lem, too_soon_lem, no_job, ticks, releases, completes}
use Rattle.apply_events.proofs.Happened.{Happened, refusal, acceptance, happened}
use Rattle.apply_events.proofs.Kept.{applied_sound}

-- ---- the table's refusal

pub refusal_small : (s : List ℕ) (x p : ℕ) → (read_table s).answer ≡ Refused x p → (x < 100) × (p < 100)
unfolding read_table read_answer
refusal_small s x p e = go (bytes_hold s) refl (sym (answer_is s) ∙ e)
  where
    go : (b : Bool) → bytes_hold s ≡ b → cond b (first_fault (record_fault_at s) (length s / 16)) (Refused 1 0) ≡ Refused x p → (x < 100) × (p < 100)
    go true h q =
        let f = found_then (record_fault_at s) (length s / 16) x p q in
        let w = (whole_tells s).holds h in
        let m : record_fault_at s p < 100 =
        record_among (bytes_at s p) (length_at s p f.below) (λ (n : ℕ). n < 100) (omega arith) (omega arith) (omega arith) (omega arith) in
        (omega (arith, m, f.fault), omega (arith, f.below, w.counted.most))
    go false h q =
        let a : 1 ≡ x = cc in
        let b : 0 ≡ p = cc in
        (omega arith, omega arith)

-- ---- thresholds and bounds of a table that obeys the rules

module _ (t : Task) (r : Misses t) where
  pub w_digits : w_of t.m t.k < 100
  w_digits = omega (arith, w_small t.m t.k, r.fewer, r.widest)

  pub h_digits : h_of t.m t.k < 100
  h_digits = go (ℕ_discrete t.m 0)
    where
      go : Dec (t.m ≡ 0) → h_of t.m t.k < 100
      go (yes z) = rw (eq-eqb t.m 0 z) (omega arith)
      go (no n) = rw (ne_eqb t.m 0 n) (omega (arith, ceiling_small (t.k - t.m) t.m (omega arith), r.widest))

  top_digits : top_of t.m t.k < 100
  top_digits = by_test (λ (x : ℕ). x < 100) (eqb t.m 0) 0 (t.k - t.m) (λ e. omega arith) (λ e. omega (arith, r.widest))

module _ (t : Table) (good : judged t ≡ Accepted) (i : ℕ) (h : i < t.count) where
  pub task_ruled : task_fault (task_at t i) ≡ 0
  task_ruled = ((judged_accepted t).0 good).1 i h

  pub bound_small : (r : ℕ) → one_answer t i ≡ Bound.At r → r < 10000000
  unfolding one_answer
  bound_small r e = go (bound_of t i) refl (rw (good, lt-ltb i t.count h) at e)
    where
      go : (f : Option ℕ) → bound_of t i ≡ f → or_thirteen f i ≡ Bound.At r → r < 10000000
      go (Some x) q p =
          let y : x ≡ r = cc in
          let b = (bound_is t i x).0 q in
          let u = ((fault_none (task_at t i)).0 task_ruled).0 in
          omega (arith, b.within, u.spaced, u.limit)
      go None q p = impossible cc

-- ---- what an event answers

abbrev pub Small : Said → Type 0
Small (Said.Run p c) = (p < 100) × (c < 100)
Small Said.Idle = Unit
Small (Said.Refused n) = n < 100

pub class_small : (r : Record) (clock : ℕ) → Sound r clock → r.live ≡ true → r.class < 100
class_small r clock s l =
    let m = ((fault_none r.task).0 s.ruled).1 in
    let o = level_told r.level _ _ (h_some r.task.m r.task.k m.fewer) s.level in
    omega (arith, s.opens l, o.1, top_digits r.task m)

module _ (s : State) (sound : StateSound s) where
  answer_small : Small (answer_of s)
  answer_small = go (best_to s.records (min s.count 16)) (best_is s.records (min s.count 16))
    where
      go : (b : Best) → Least.Found s.records (min s.count 16) b → Small (cond b.found (Said.Run b.at (record_at s b.at).class) Said.Idle)
      go b (Least.some {p} f) =
          (omega (arith, f.below), class_small (record_at s p) s.clock (sound.each p (omega (arith, f.below))) f.live)
      go b (Least.nothing f) = tt

-- a row's number is 7 to 12 or 15, or 0
row_small : (s : State) (e : Event) {n : ℕ} → Verdict s e n → n < 100
unfolding fault_of
row_small s e (unsound q) = omega arith
row_small s e (unruled p q) =
    by_test (λ (n : ℕ). n < 100) (ltb last_kind e.kind) 7 (cond (zeroes e) 0 8) (λ z. omega arith)
    (λ z. by_test (λ (n : ℕ). n < 100) (zeroes e) 0 8 (λ f. omega arith) (λ f. omega arith))
row_small s e (untimely p z q) = omega arith
row_small s e (no_task_lem h k c) = omega arith
row_small s e (too_soon_lem h k c f) = omega arith
row_small s e (no_job h k r c f) = omega arith
row_small s e (ticks h k) = omega arith
row_small s e (releases h k c f) = omega arith
row_small s e (completes h k r c f) = omega arith

pub applied_small : (s : State) (e : Event) → StateSound s → Small (applied s e).answer
applied_small s e p = go (happened s e) (applied_sound s p e)
  where
    go : {a : Applied} → Happened s e a → StateSound a.state → Small a.answer
    go (refusal n z v) g = row_small s e v
    go {a} (acceptance h c o) g = answer_small a.state g

-- ---- what a sound record holds

module _ (r : Record) (clock : ℕ) (s : Sound r clock) (l : clock ≤ limit) where
  pub met_small : r.met < 10000000000000
  met_small = omega (arith, s.balance, s.spaced, s.past)

  pub missed_small : r.missed < 10000000000000
  missed_small = omega (arith, s.balance, s.spaced, s.past)

  pub broken_small : r.broken < 10000000000000
  broken_small = omega (arith, s.broken, s.balance, s.spaced, s.past)

  pub open_small : open_of r < 10
  open_small = by_test (λ (x : ℕ). x < 10) r.live 1 0 (λ e. omega arith) (λ e. omega arith)

  pub window_small : window_of r < 100
  window_small =
      omega (arith, ones-le (min r.task.k (r.met + r.missed)) r.marks s.marks, ((fault_none r.task).0 s.ruled).1.widest)

-- ---- the state that is started

pub fresh_state_sound : (t : Table) → judged t ≡ Accepted → StateSound (fresh_state t)
fresh_state_sound t good =
    let j = (judged_accepted t).0 good in
    record {
      counted = j.0;
      clock = omega arith;
      each =
          λ i h.
          let e = filled_below (λ (j : ℕ). fresh (task_at t j)) (replicate 16 no_record) no_record t.count i j.0.most h in
          rw e (fresh_sound (task_at t i) (j.1 i h));
    }
