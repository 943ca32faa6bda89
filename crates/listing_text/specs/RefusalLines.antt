-- Rules, "The listing": the lines that say what was not listed.
use Rattle.std.specs.Prelude.{ℕ, List, ◌++◌}
use Rattle.listing_text.specs.Fields.{field_of}
use Rattle.listing_text.specs.Words.{input_too_long_word, table_refused_word, stop_word, at_word, line_end}

-- `input too long`
abbrev pub too_long : List ℕ
too_long = input_too_long_word ++ line_end

-- a word, a refusal's number, and where it was found
abbrev pub found_at : List ℕ → ℕ → ℕ → List ℕ
found_at word n place = field_of word n ++ (field_of at_word place ++ line_end)

-- `table refused N at P`
abbrev pub refused_line : ℕ → ℕ → List ℕ
refused_line n p = found_at table_refused_word n p

-- `stop N at O`
abbrev pub stop_line : ℕ → ℕ → List ℕ
stop_line n offset = found_at stop_word n offset
