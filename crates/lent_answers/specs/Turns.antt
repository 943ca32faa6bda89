-- The parts of an event in place. `apply_in`'s contract is the engine's `applied` alone; what these come to is shown in `Turns`.
use Rattle.std.specs.Prelude.{ℕ, cond, List, length, get_or, set}
use Rattle.event_reading.specs.declared.Event.{Event}
use Rattle.task_records.specs.declared.Record.{Record}
use Rattle.task_steps.specs.Opening.{no_record}
use Rattle.state_rules.specs.Sound.{state_holds}
use Rattle.state_choice.specs.Choice.{best_to}
use Rattle.apply_events.specs.Answer.{Answer}
use Rattle.apply_events.specs.Answer.{Refused}
use Rattle.apply_events.specs.Answer.{Applied}
use Rattle.apply_ruling.specs.Answer.{Ruling}
use Rattle.apply_events.specs.Apply.{told_of}
use Rattle.apply_ruling.specs.Ruling.{seat_of, kept, ruled}
use Rattle.lent_answers.specs.Turn.{Turn}
use Rattle.lent_records.specs.Row.{state_of}
use Rattle.lent_records.specs.Expiry.{expired_row}

abbrev pub unsound : Ruling
unsound = kept 15 no_record

abbrev pub seat_in : List Record → Event → ℕ
seat_in l e = seat_of e.task (length l)

-- the record that is ruled on: the one at the event's seat, and none of a row that is not sound
abbrev pub ruled_on : List Record → ℕ → Event → Record
ruled_on l clock e = cond (state_holds (state_of l clock)) (get_or l (seat_in l e) no_record) no_record

-- 15 before all, then the ruling on the record at the event's seat
abbrev pub ruled_row : List Record → ℕ → Event → Ruling
ruled_row l clock e = cond (state_holds (state_of l clock)) (ruled clock (length l) (get_or l (seat_in l e) no_record) e) unsound

-- the record stored at the event's seat, then each late record closed
abbrev pub stored_row : List Record → Event → Record → List Record
stored_row l e x = set l (seat_in l e) x

abbrev pub settled_row : List Record → Event → Record → List Record
settled_row l e x = expired_row (stored_row l e x) e.time

abbrev pub row_answer : List Record → Answer
row_answer l = told_of (best_to l (length l)) (get_or l (best_to l (length l)).at no_record).class

abbrev pub accepted_turn : Answer → Event → Turn
accepted_turn a e = record { answer = a; clock = e.time }

abbrev pub refused_turn : Ruling → ℕ → Turn
refused_turn r clock = record { answer = Refused r.refusal; clock = clock }

-- a turn over the row, as the state that it leaves
abbrev pub placed_by : Turn → ℕ → List Record → Applied
placed_by u count l = record { answer = u.answer; state = record { count = count; clock = u.clock; records = l } }
