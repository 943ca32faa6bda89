-- What a C caller can tell from the code: which case it is, since the cases have ranges apart, and of a refusal whether it is the table's (1 to 4), the
-- reading's (5 to 8) or the last event's (9 to 12). 47 never comes.
use Prim.Native.Nat.{ℕ, zero, suc, ◌+◌, ◌≤◌, ◌<◌}
use mathlib.Core.Path.{◌≡◌, refl, sym, ap, ◌∙◌}
use mathlib.Core.List.{List, [], ◌∷◌, ◌++◌}
use mathlib.Core.Logic.{◌⊎◌, inl, inr}
use native.Mathlib.Omega.{arith}
use borrow.Author.Tests.{lt-ltb, le-ltb, ne_eqb}
use lib.ListN.{length}
use Rattle.laws.proofs.Tests.{impossible}
use Rattle.table_rules.specs.Answers as T
use Rattle.table_reading.specs.Table.{read_table}
use Rattle.table_reading.proofs.Exactly.{read_among}
use Rattle.table_reading.proofs.Given.{answer_is}
use Rattle.event_reading.specs.declared.Event.{Event}
use Rattle.event_reading.specs.Reading as R
use Rattle.event_reading.specs.Record.{read_record}
use Rattle.event_logs.specs.Log.{rest_of, events_of}
use Rattle.event_reading.proofs.ReadOne.{read_end}
use Rattle.event_logs.proofs.Rests.{rest_refused}
use Rattle.apply_events.specs.Answer.{Answer}
use Rattle.apply_events.specs.Answer as A
use Rattle.apply_events.specs.Apply.{applied}
use Rattle.apply_events.specs.Log.{state_after}
use Rattle.rig_codes.specs.Code.{Case, chosen, none, refused, too_long, Fits, code_for, case_for, of_answer, begins, case_of, code_of}
use Rattle.rig_codes.specs.Given.{Begun, Given, long, bad_table, bad_record, empty, last, Source, of_table, of_record, of_event}
use Rattle.rig_codes.proofs.Answers.{InRun, ran_said, said_16}
use Rattle.rig_codes.proofs.Starts.{begins_sound}
use Rattle.rig_codes.proofs.Exactly.{ran_last, given_is, given_exactly}

told : (c : Case) → Fits c → case_for (code_for c) ≡ c
told (chosen p) f = rw (lt-ltb p 16 f)
told none f = refl
told (refused n) f =
    let a : 16 ≤ 32 + n = omega arith in
    rw (le-ltb (32 + n) 16 a, ne_eqb (32 + n) 16 (λ q. omega arith), ne_eqb (32 + n) 64 (λ q. omega (arith, f.1))) (ap refused (omega arith))
told too_long f = refl

module _ (table log : List ℕ) where
  -- a record that ended the reading is refused by 5 to 8
  stopped_among : (n : ℕ) → read_record (rest_of log) ≡ R.Refused n → (5 ≤ n) × (n ≤ 8)
  stopped_among n q = rw q at (rest_refused log (some (length (rest_of log)) refl))
    where
      some : (k : ℕ) → length (rest_of log) ≡ k → 0 < length (rest_of log)
      some zero e = absurd (not_both (sym ((read_end (rest_of log)).1 e) ∙ q))
        where
          not_both : R.End ≡ R.Refused n → ⊥
          not_both z = impossible cc
      some (suc k) e = omega arith

  table_among : (n p : ℕ) → (read_table table).answer ≡ T.Refused n p → (1 ≤ n) × (n ≤ 4)
  table_among n p q = read_among table n p (sym (answer_is table) ∙ q)

  last_said : Begun table log → (es : List Event) (e : Event) → events_of log ≡ es ++ (e ∷ [])
      → InRun (read_table table).table.count (applied (state_after (begins table) es) e).answer
  last_said b es e q = rw (ran_last table log b es e q) at (ran_said (begins table) log (begins_sound table b.tabled))

  most : Begun table log → (read_table table).table.count ≤ 16
  most b = (begins_sound table b.tabled).counted.most

  -- ---- the ranges

  fits : (c : Case) → Given table log c → Fits c
  fits c (long l) = tt
  fits c (bad_table l {n} {p} q) = let a = table_among n p q in (a.0, omega (arith, a.1))
  fits c (bad_record b {n} q) = let a = stopped_among n q in (omega (arith, a.0), omega (arith, a.1))
  fits c (empty b q) = tt
  fits c (last w es e q) =
      go (applied (state_after (begins table) es) e).answer
      (said_16 (read_table table).table.count (applied (state_after (begins table) es) e).answer (most w.begun) (last_said w.begun es e q))
    where
      go : (a : Answer) → InRun 16 a → Fits (of_answer a)
      go (A.Run p k) h = h
      go A.Idle h = tt
      go (A.Refused n) h = (omega (arith, h.0), h.1)

  pub case_fits : Fits (case_of table log)
  case_fits = fits (case_of table log) (given_is table log)

  -- the code is at most 64, and past 44 it is 64 alone
  pub code_most : (code_of table log ≤ 44) ⊎ (code_of table log ≡ 64)
  unfolding code_of
  code_most = go (case_of table log) case_fits
    where
      go : (c : Case) → Fits c → (code_for c ≤ 44) ⊎ (code_for c ≡ 64)
      go (chosen p) f = inl (omega arith)
      go none f = inl (omega arith)
      go (refused n) f = inl (omega (arith, f.1))
      go too_long f = inr refl

  -- the case that was meant can be told from the code
  pub code_told : case_for (code_of table log) ≡ case_of table log
  unfolding code_of
  code_told = told (case_of table log) case_fits

  -- ---- where a refusal comes from

  from : (c : Case) → Given table log c → (n : ℕ) → c ≡ refused n → Source table log n
  from c (long l) n e = impossible cc
  from c (bad_table l {n = m} {p} q) n e =
      let z : m ≡ n = cc in
      let a = table_among m p q in
      of_table (omega (arith, a.0)) (omega (arith, a.1)) p (rw z at q)
  from c (bad_record b {n = m} q) n e =
      let z : m ≡ n = cc in
      let a = stopped_among m q in
      of_record (omega (arith, a.0)) (omega (arith, a.1)) (rw z at q)
  from c (empty b q) n e = impossible cc
  from c (last w es x q) n e = go (applied (state_after (begins table) es) x).answer refl (last_said w.begun es x q) e
    where
      go : (a : Answer) → (applied (state_after (begins table) es) x).answer ≡ a → InRun (read_table table).table.count a → of_answer a ≡ refused n
          → Source table log n
      go (A.Run p k) r h z = impossible cc
      go A.Idle r h z = impossible cc
      go (A.Refused m) r h z =
          let y : m ≡ n = cc in
          of_event (omega (arith, h.0)) (omega (arith, h.1)) es x q (rw y at r)

  pub refusal_from : (n : ℕ) → case_of table log ≡ refused n → Source table log n
  refusal_from n = from (case_of table log) (given_is table log) n

  -- ---- what is chosen

  chosen_by : (c : Case) → Given table log c → (p : ℕ) → c ≡ chosen p → p < (read_table table).table.count
  chosen_by c (long l) p e = impossible cc
  chosen_by c (bad_table l q) p e = impossible cc
  chosen_by c (bad_record b q) p e = impossible cc
  chosen_by c (empty b q) p e = impossible cc
  chosen_by c (last w es x q) p e = go (applied (state_after (begins table) es) x).answer (last_said w.begun es x q) e
    where
      go : (a : Answer) → InRun (read_table table).table.count a → of_answer a ≡ chosen p → p < (read_table table).table.count
      go (A.Run k c) h z = let y : k ≡ p = cc in omega arith
      go A.Idle h z = impossible cc
      go (A.Refused m) h z = impossible cc

  -- a chosen task is one of the table's
  pub chosen_below : (p : ℕ) → case_of table log ≡ chosen p → p < (read_table table).table.count
  chosen_below p = chosen_by (case_of table log) (given_is table log) p

-- an empty log gives 16, whatever table is read
pub empty_log : (table : List ℕ) → (read_table table).answer ≡ T.Accepted → code_of table [] ≡ 16
unfolding code_of
empty_log table q = ap code_for ((given_exactly table [] none).1 (empty (record { within = omega arith; tabled = q }) refl))
