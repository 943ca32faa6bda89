-- Rules, "Events and the clock", step 1, over a lent row.
use Rattle.std.specs.Prelude.{ℕ, ◌<◌, ◌≡◌, List, length, get_or}
use Rattle.laws.specs.Stores.{filled}
use Rattle.task_records.specs.declared.Record.{Record}
use Rattle.task_steps.specs.Opening.{expired, no_record}

-- every open job with deadline below t is closed as missed
abbrev pub expired_row : List Record → ℕ → List Record
expired_row l t = filled (λ i. expired (get_or l i no_record) t) (length l) l

-- the same of the row as a whole: it is as long as it was, and each record is the one that stood there, expired by t
pub record ExpiredBy (t : ℕ) (l m : List Record) : Type 0 where
  pub long : length m ≡ length l
  pub each : (i : ℕ) → i < length l → get_or m i no_record ≡ expired (get_or l i no_record) t
