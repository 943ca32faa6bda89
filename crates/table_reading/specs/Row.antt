-- Rules, "The task table": the table record, and what it reads as.
use Rattle.std.specs.Prelude.{ℕ, zero, suc, ◌≡◌, Bool, cond, List, [], ◌∷◌, eqb, length, get_or, take, drop}
use Rattle.laws.specs.Tests.{all_of}
use Rattle.number_reading.specs.Words.{number}
use Rattle.table_rules.specs.declared.Task.{Task}
use Rattle.table_rules.specs.Rules.{task_fault}
use Rattle.table_reading.specs.Answers as Row

-- the bytes of a table record
abbrev pub task_size : ℕ
task_size = 16

-- mark 0x54 0x4B
pub record Marked (s : List ℕ) : Type 0 where
  pub first : get_or s 0 0 ≡ 0x54
  pub second : get_or s 1 0 ≡ 0x4B

abbrev pub mark_holds : List ℕ → Bool
mark_holds s = all_of (eqb (get_or s 0 0) 0x54 ∷ eqb (get_or s 1 0) 0x4B ∷ [])

-- C, D, T (4 bytes each), m, K (1 byte each)
abbrev pub task_of : List ℕ → Task
task_of s =
    record {
      c = number (take 4 (drop 2 s));
      d = number (take 4 (drop 6 s));
      t = number (take 4 (drop 10 s));
      m = get_or s 14 0;
      k = get_or s 15 0;
    }

-- 1 for bytes that are not one record, 2 for the mark, then the task's own
unfoldable pub record_fault : List ℕ → ℕ
record_fault s = cond (eqb (length s) task_size) (cond (mark_holds s) (task_fault (task_of s)) 2) 1

abbrev pub row_by : ℕ → Task → Row.Row
row_by zero t = Row.Task t
row_by (suc n) t = Row.Refused (suc n)

unfoldable pub read_row : List ℕ → Row.Row
read_row s = row_by (record_fault s) (task_of s)
