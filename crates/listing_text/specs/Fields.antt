-- A word and the number behind it.
use Rattle.std.specs.Prelude.{ℕ, List, ◌++◌}
use Rattle.text_writing.specs.Decimal.{decimal}

abbrev pub field_of : List ℕ → ℕ → List ℕ
field_of word n = word ++ decimal n
