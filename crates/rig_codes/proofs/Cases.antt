-- The cases of the rig in their order, each from the test that decides it: the length, the table, the reading, and then the last answer.
use Prim.Native.Nat.{ℕ, ◌≤◌, ◌<◌}
use mathlib.Core.Path.{◌≡◌, ap}
use mathlib.Core.List.{List}
use borrow.Author.Tests.{lt-ltb, le-ltb}
use lib.ListN.{length}
use Rattle.table_rules.specs.Answers as T
use Rattle.table_reading.specs.Table.{read_table}
use Rattle.state_rules.specs.declared.State.{State}
use Rattle.event_logs.specs.Stops as E
use Rattle.apply_events.specs.Log.{ran}
use Rattle.rig_codes.specs.Code.{refused, too_long, of_answer, after_reading, log_case, begins, case_of}

module _ (s : State) (log : List ℕ) where
  pub case_stopped : (n offset : ℕ) → (ran s log).ending ≡ E.Stopped n offset → log_case s log ≡ refused n
  unfolding log_case
  case_stopped n offset e = ap (λ x. after_reading x (of_answer (ran s log).answer)) e

  pub case_ended : (ran s log).ending ≡ E.Whole → log_case s log ≡ of_answer (ran s log).answer
  unfolding log_case
  case_ended e = ap (λ x. after_reading x (of_answer (ran s log).answer)) e

module _ (table log : List ℕ) where
  pub case_long : 65536 < length log → case_of table log ≡ too_long
  unfolding case_of
  case_long l = rw (lt-ltb 65536 (length log) l)

  pub case_table : length log ≤ 65536 → (n p : ℕ) → (read_table table).answer ≡ T.Refused n p → case_of table log ≡ refused n
  unfolding case_of
  case_table l n p e = rw (le-ltb 65536 (length log) l, e)

  pub case_log : length log ≤ 65536 → (read_table table).answer ≡ T.Accepted → case_of table log ≡ log_case (begins table) log
  unfolding case_of
  case_log l e = rw (le-ltb 65536 (length log) l, e)
