-- The guarantee for bytes is not empty: table and first seven events of the worked listing, as bytes, are an instance, and the C function's answers along
-- them are those that the rules list. By computation.
use Prim.Native.Nat.{ℕ}
use mathlib.Core.Path.{◌≡◌, refl}
use mathlib.Core.List.{List, [], ◌∷◌, ◌++◌, map}
use native.Mathlib.Omega.{arith}
use lib.Dec.{lit<}
use Rattle.event_reading.specs.declared.Event.{Event}
use Rattle.event_logs.specs.Log.{events_of}
use Rattle.event_logs.proofs.Computing.{log_computes}
use Rattle.table_rules.specs.Answers.{Accepted}
use Rattle.table_reading.specs.Table.{read_table}
use Rattle.table_reading.proofs.Computing.{table_computes}
use Rattle.state_rules.specs.State.{fresh_state}
use Rattle.apply_events.specs.Log.{ran_over, ran}
use Rattle.apply_events.proofs.Computing.{event_computes}
use Rattle.bound_all.specs.Asked.{all_answer}
use Rattle.bound_all.proofs.Computing.{bounds_compute}
use Rattle.rig_codes.specs.Code.{log_case, case_of, code_of, begins}
use Rattle.guarantee.proofs.Listing.{releases, finishes, ticks, listed, seven_obey, eighth_late}
use Rattle.guarantee_of_logs.specs.Premise.{LogObeys}
use Rattle.guarantee_of_logs.specs.Keeps.{LogKeeps}
use Rattle.guarantee_of_logs.specs.Bytes.{BothRead}
use Rattle.guarantee_of_logs.specs.Codes.{code_after}
use Rattle.guarantee_of_logs.specs.CodeTime.{CodesObey}
use Rattle.guarantee_of_logs.proofs.Premise.{premise_either_way}
use Rattle.guarantee_of_logs.proofs.Theorem.{guarantee_of_logs}
use Rattle.guarantee_of_logs.proofs.Times.{answers_of_logs}

-- ---- the bytes

-- tasks 0: (2,4,4,(1,2)) and 1: (3,7,8,(1,3))
abbrev pub table_bytes : List ℕ
table_bytes =
    84 ∷ 75 ∷ 2 ∷ 0 ∷ 0 ∷ 0 ∷ 4 ∷ 0 ∷ 0 ∷ 0 ∷ 4 ∷ 0 ∷ 0 ∷ 0 ∷ 1 ∷ 2
    ∷ 84 ∷ 75 ∷ 3 ∷ 0 ∷ 0 ∷ 0 ∷ 7 ∷ 0 ∷ 0 ∷ 0 ∷ 8 ∷ 0 ∷ 0 ∷ 0 ∷ 1 ∷ 3 ∷ []

-- a record of an event whose numbers are below 256
abbrev record_bytes : Event → List ℕ
record_bytes e =
    69 ∷ 86 ∷ e.kind ∷ e.task ∷ e.job ∷ 0 ∷ 0 ∷ 0 ∷ 0 ∷ 0 ∷ 0 ∷ 0 ∷ e.time ∷ 0 ∷ 0 ∷ 0 ∷ 0 ∷ 0 ∷ 0 ∷ 0 ∷ []

abbrev bytes_of : List Event → List ℕ
bytes_of [] = []
bytes_of (e ∷ es) = record_bytes e ++ bytes_of es

-- in the rules' order
abbrev pub seven_events : List Event
seven_events = releases 0 0 ∷ releases 1 0 ∷ finishes 0 1 2 ∷ releases 0 3 ∷ releases 0 4 ∷ finishes 1 1 5 ∷ finishes 0 1 6 ∷ []

abbrev pub log_bytes : List ℕ
log_bytes = bytes_of seven_events

pub bytes_read : BothRead table_bytes log_bytes
unfolding table_computes log_computes
bytes_read = record { tabled = refl; whole = refl }

table_is : (read_table table_bytes).table ≡ listed
unfolding table_computes
table_is = refl

events_are : events_of log_bytes ≡ seven_events
unfolding log_computes
events_are = refl

bounds_given : all_answer listed 16 ≡ Accepted
unfolding bounds_compute
bounds_given = refl

-- ---- the premise and the promise

pub seven_obey_in_order : LogObeys (fresh_state listed) seven_events
seven_obey_in_order = (premise_either_way (fresh_state listed) seven_events).1 seven_obey

-- the eighth, the tick at 9, does not
pub eighth_late_in_order : LogObeys (fresh_state listed) (seven_events ++ (ticks 9 ∷ [])) → ⊥
eighth_late_in_order o = eighth_late ((premise_either_way (fresh_state listed) (seven_events ++ (ticks 9 ∷ []))).0 o)

pub bytes_obey : LogObeys (begins table_bytes) (events_of log_bytes)
bytes_obey = rw (table_is, events_are) seven_obey_in_order

pub bytes-kept : LogKeeps (read_table table_bytes).table (begins table_bytes) (events_of log_bytes) 0
    × LogKeeps (read_table table_bytes).table (begins table_bytes) (events_of log_bytes) 1
bytes-kept =
    let ok : all_answer (read_table table_bytes).table 16 ≡ Accepted = rw table_is bounds_given in (
      guarantee_of_logs table_bytes log_bytes 16 bytes_read ok bytes_obey 0 (rw table_is (lit< tt)),
      guarantee_of_logs table_bytes log_bytes 16 bytes_read ok bytes_obey 1 (rw table_is (lit< tt)),
    )

pub bytes_obey_by_answers : CodesObey table_bytes log_bytes
bytes_obey_by_answers = (answers_of_logs table_bytes log_bytes bytes_read (omega arith)).premise.0 bytes_obey

-- ---- the C function's answers for the first 0 to 7 records: none, 0, 0, 1, refused 11, 1, 0, refused 12

pub bytes_codes : map (code_after table_bytes log_bytes) (0 ∷ 1 ∷ 2 ∷ 3 ∷ 4 ∷ 5 ∷ 6 ∷ 7 ∷ []) ≡ 16 ∷ 0 ∷ 0 ∷ 1 ∷ 43 ∷ 1 ∷ 0 ∷ 44 ∷ []
unfolding code_of case_of log_case ran ran_over table_computes log_computes event_computes
bytes_codes = refl
