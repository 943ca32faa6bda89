-- Rules, "The listing": what the lines of a task say. Every line ends in a newline.
use Rattle.std.specs.Prelude.{ℕ, List, ◌++◌}
use Rattle.table_rules.specs.declared.Task.{Task}
use Rattle.task_thresholds.specs.Thresholds.{w_of, h_of}
use Rattle.bound_one.specs.Bound.{Bound}
use Rattle.task_records.specs.declared.Record.{Record}
use Rattle.task_records.specs.Window.{window_of}
use Rattle.task_soundness.specs.Counts.{open_of}
use Rattle.listing_text.specs.Fields.{field_of}
use Rattle.listing_text.specs.Words.{task_word, w_word, h_word, bound_word, no_bound_word, met_word, missed_word, open_word, window_word, broken_word, line_end}

-- bound or `-`
abbrev pub bound_text : Bound → List ℕ
bound_text (Bound.At r) = field_of bound_word r
bound_text (Bound.Refused n p) = no_bound_word

-- position, w, h, bound or `-`
abbrev pub task_line : ℕ → Task → Bound → List ℕ
task_line i t b =
    field_of task_word i ++ (field_of w_word (w_of t.m t.k) ++ (field_of h_word (h_of t.m t.k) ++ (bound_text b ++ line_end)))

-- its jobs met, missed and open
abbrev pub counts_text : Record → List ℕ
counts_text r = field_of met_word r.met ++ (field_of missed_word r.missed ++ field_of open_word (open_of r))

-- its window number and `broken`
abbrev pub window_text : Record → List ℕ
window_text r = field_of window_word (window_of r) ++ field_of broken_word r.broken

abbrev pub last_line : ℕ → Record → List ℕ
last_line i r = field_of task_word i ++ (counts_text r ++ (window_text r ++ line_end))
