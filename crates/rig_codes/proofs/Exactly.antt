-- A case is the rig's exactly when the rules' rule for it holds: the tests decide the rules in their order, and the last event of a log is the one that is
-- applied last.
use Prim.Native.Nat.{ℕ, zero, suc, ◌+◌, ◌*◌, ◌≤◌, ◌<◌}
use mathlib.Core.Path.{◌≡◌, refl, sym, ap, ◌∙◌}
use mathlib.Core.List.{List, [], ◌∷◌, ◌++◌}
use mathlib.Core.Logic.{◌↔◌}
use native.Mathlib.Decide.{dec_lt}
use native.Mathlib.Omega.{arith}
use lib.ListN.{length}
use Rattle.laws.proofs.Answers.{exactly, one_answer}
use Rattle.laws.proofs.Tests.{impossible}
use Rattle.table_rules.specs.Answers as T
use Rattle.table_reading.specs.Table.{read_table}
use Rattle.event_reading.specs.declared.Event.{Event}
use Rattle.event_reading.specs.Reading.{Reading}
use Rattle.event_reading.specs.Reading as R
use Rattle.event_reading.specs.Record.{read_record}
use Rattle.event_logs.specs.Log.{readable, rest_of, events_in, events_of}
use Rattle.event_logs.specs.Ending.{ending_of}
use Rattle.event_logs.proofs.Records.{readable-fits}
use Rattle.event_logs.proofs.Rests.{rest_silent, rest_end}
use Rattle.apply_events.specs.Answer as A
use Rattle.apply_events.specs.Answer.{Applied}
use Rattle.apply_events.specs.Apply.{applied}
use Rattle.apply_events.specs.Log.{standing, ran_over, state_after, ended_with, ran}
use Rattle.apply_events.proofs.Runs.{ran_by, ran_sound}
use Rattle.rig_codes.specs.Code.{Case, none, refused, code_for, of_answer, begins, case_of, code_of}
use Rattle.rig_codes.specs.Given.{Begun, Whole, Given, long, bad_table, bad_record, empty, last}
use Rattle.rig_codes.proofs.Starts.{begins_sound, begins_idle}
use Rattle.rig_codes.proofs.Cases.{case_stopped, case_ended, case_long, case_table, case_log}

-- ---- the last of a list

pub data Ends : List Event → Type 0 where
  nothing : Ends []
  with_last : (es : List Event) (e : Event) → Ends (es ++ (e ∷ []))

ends : (es : List Event) → Ends es
ends [] = nothing
ends (e ∷ es) = go (ends es)
  where
    go : {fs : List Event} → Ends fs → Ends (e ∷ fs)
    go nothing = with_last [] e
    go (with_last gs f) = with_last (e ∷ gs) f

over_last : (a : Applied) (es : List Event) (e : Event) → ran_over a (es ++ (e ∷ [])) ≡ applied (ran_over a es).state e
unfolding ran_over
over_last a [] e = refl
over_last a (f ∷ es) e = over_last (applied a.state f) es e

-- ---- a log with no events

none_read : (n : ℕ) (s : List ℕ) → events_in n s ≡ [] → n ≡ 0
unfolding events_in
none_read zero s e = refl
none_read (suc n) s e = impossible cc

-- a log that was read to its end and has no events has no bytes
no_bytes : (log : List ℕ) → read_record (rest_of log) ≡ R.End → events_of log ≡ [] → length log ≡ 0
no_bytes log e q = let z = none_read (readable log) log q in omega (arith, (rest_end log).0 e, z)

no_events : (log : List ℕ) → length log ≡ 0 → events_of log ≡ []
unfolding events_in
no_events log q = let z : readable log ≡ 0 = omega (arith, readable-fits log) in rw z

no_rest : (log : List ℕ) → length log ≡ 0 → read_record (rest_of log) ≡ R.End
no_rest log q = (rest_end log).1 (omega (arith, readable-fits log))

module _ (table log : List ℕ) where
  -- the log is run from a sound state
  ran_over_lem : Begun table log → ran (begins table) log ≡ ended_with (ran_over (standing (begins table)) (events_of log)) (ending_of log)
  ran_over_lem b = ran_sound (begins table) log (begins_sound table b.tabled)

  -- so its answer is that of its last event
  pub ran_last : Begun table log → (es : List Event) (e : Event) → events_of log ≡ es ++ (e ∷ [])
      → (ran (begins table) log).answer ≡ (applied (state_after (begins table) es) e).answer
  ran_last b es e q = rw (ran_over_lem b, q, over_last (standing (begins table)) es e, ran_by (standing (begins table)) es)

  ran_none : Begun table log → events_of log ≡ [] → of_answer (ran (begins table) log).answer ≡ none
  unfolding ran_over
  ran_none b q = rw (ran_over_lem b, q, begins_idle table b.tabled)

  -- a record that does not read is told by its number
  by_stop : Begun table log → (n : ℕ) → read_record (rest_of log) ≡ R.Refused n → case_of table log ≡ refused n
  by_stop b n q = case_log table log b.within b.tabled ∙ case_stopped (begins table) log n (20 * readable log) (rw (ran_over_lem b, q))

  -- a log that is read to its end is told by its answer
  by_ran : Whole table log → case_of table log ≡ of_answer (ran (begins table) log).answer
  by_ran w =
      let b = w.begun in
      case_log table log b.within b.tabled ∙ case_ended (begins table) log (rw (ran_over_lem b, w.ended))

  by_last : Whole table log → (es : List Event) (e : Event) → events_of log ≡ es ++ (e ∷ [])
      → case_of table log ≡ of_answer (applied (state_after (begins table) es) e).answer
  by_last w es e q = by_ran w ∙ ap of_answer (ran_last w.begun es e q)

  by_none : Whole table log → events_of log ≡ [] → case_of table log ≡ none
  by_none w q = by_ran w ∙ ran_none w.begun q

  -- ---- the two directions

  has_whole : Whole table log → Given table log (case_of table log)
  has_whole w = go (events_of log) refl (ends (events_of log))
    where
      go : (es : List Event) → events_of log ≡ es → Ends es → Given table log (case_of table log)
      go es q nothing = rw (by_none w q) (empty w.begun (no_bytes log w.ended q))
      go es q (with_last fs f) = rw (by_last w fs f q) (last w fs f q)

  has_begun : Begun table log → Given table log (case_of table log)
  has_begun b = go (read_record (rest_of log)) refl
    where
      go : (r : Reading) → read_record (rest_of log) ≡ r → Given table log (case_of table log)
      go (R.Event e) q = absurd (rest_silent log e q)
      go R.End q = has_whole (record { begun = b; ended = q })
      go (R.Refused n) q = rw (by_stop b n q) (bad_record b q)

  pub given_is : Given table log (case_of table log)
  given_is = go (dec_lt 65536 (length log))
    where
      judged : length log ≤ 65536 → (a : T.Answer) → (read_table table).answer ≡ a → Given table log (case_of table log)
      judged l T.Accepted q = has_begun (record { within = l; tabled = q })
      judged l (T.Refused n p) q = rw (case_table table log l n p q) (bad_table l q)

      go : Dec (65536 < length log) → Given table log (case_of table log)
      go (yes l) = rw (case_long table log l) (long l)
      go (no l) = judged (omega arith) (read_table table).answer refl

  given_only : (c : Case) → Given table log c → c ≡ case_of table log
  given_only c (long l) = sym (case_long table log l)
  given_only c (bad_table l {n} {p} q) = sym (case_table table log l n p q)
  given_only c (bad_record b {n} q) = sym (by_stop b n q)
  given_only c (empty b q) = sym (by_none (record { begun = b; ended = no_rest log q }) (no_events log q))
  given_only c (last w es e q) = sym (by_last w es e q)

  -- the rig is told a case exactly when its rule holds
  pub given_exactly : (c : Case) → (case_of table log ≡ c) ↔ Given table log c
  given_exactly = exactly (Given table log) given_is given_only

  -- so the rules admit a single answer
  pub given_single : {a b : Case} → Given table log a → Given table log b → a ≡ b
  given_single = one_answer (Given table log) given_is given_only

  -- a last event that is refused is told by its number
  pub last_refused : (n : ℕ) → Whole table log → (es : List Event) (e : Event) → events_of log ≡ es ++ (e ∷ [])
      → (applied (state_after (begins table) es) e).answer ≡ A.Refused n → code_of table log ≡ 32 + n
  unfolding code_of
  last_refused n w es e q a = ap code_for (by_last w es e q ∙ ap of_answer a)
