-- Rules, "The listing": what the line of an event says.
use Rattle.std.specs.Prelude.{ℕ, List, ◌++◌}
use Rattle.apply_events.specs.Answer.{Answer, Run, Idle, Refused}
use Rattle.listing_text.specs.Fields.{field_of}
use Rattle.listing_text.specs.Words.{event_word, run_word, class_word, idle_word, refused_word, line_end}

-- `run` with the chosen position and that job's class, or `idle`, or the refusal
abbrev pub answer_text : Answer → List ℕ
answer_text (Run p c) = field_of run_word p ++ field_of class_word c
answer_text Idle = idle_word
answer_text (Refused n) = field_of refused_word n

abbrev pub event_line : ℕ → Answer → List ℕ
event_line i a = field_of event_word i ++ (answer_text a ++ line_end)
