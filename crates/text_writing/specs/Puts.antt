-- What putting text on a sheet leaves: the text stands behind what was there, in the same lent bytes.
use Rattle.std.specs.Prelude.{ℕ, ◌≡◌, List}
use Rattle.text_writing.specs.declared.Sheet as D
use Rattle.text_writing.specs.Sheet.{Sheet, sheet, puts}

-- the code's sheet, in these terms
abbrev pub as_sheet : D.Sheet → Sheet
as_sheet s = sheet s.out.now s.at

pub record Puts (before after : D.Sheet) (text : List ℕ) : Type 0 where
  pub same : after.out.ghost_name ≡ before.out.ghost_name
  pub put : as_sheet after ≡ puts (as_sheet before) text
