-- Rules, "Choice", as a sentence over the first n positions of a row: the open job that is least by class, then by D, then by position; or none.
use Rattle.std.specs.Prelude.{ℕ, ◌<◌, ◌≡◌, true, false, List, get_or}
use Rattle.task_records.specs.declared.Record.{Record}
use Rattle.task_steps.specs.Opening.{no_record}
use Rattle.task_steps.specs.Rank.{JobAbove}

-- the job at p is open, and above every other open one by class, then D, then position
pub record Least (l : List Record) (n p : ℕ) : Type 0 where
  pub below : p < n
  pub live : (get_or l p no_record).live ≡ true
  pub least : (i : ℕ) → i < n → (get_or l i no_record).live ≡ true → (i ≡ p → ⊥) → JobAbove (get_or l p no_record) p (get_or l i no_record) i

-- none has an open job
abbrev pub NoneOpen : List Record → ℕ → Type 0
NoneOpen l n = (i : ℕ) → i < n → (get_or l i no_record).live ≡ false
