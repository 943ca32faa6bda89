-- What was read is a good table with zeros past its last task: each of its tasks is a record's, and no record has a fault.
use Prim.Native.Nat.{ℕ, ◌/◌, ◌<◌}
use mathlib.Core.Path.{◌≡◌, refl, sym, ◌∙◌}
use mathlib.Core.List.{List}
use native.Mathlib.Decide.{dec_lt}
use native.Mathlib.Omega.{arith}
use lib.ListN.{length, get_or, replicate, get_or-replicate, get_or-eq_default}
use Rattle.laws.proofs.Stores.{length_filled, filled_below, filled_past}
use Rattle.table_rules.specs.Answers.{Answer}
use Rattle.table_rules.specs.Answers.{Accepted, Refused}
use Rattle.table_rules.specs.declared.Table.{Table}
use Rattle.table_rules.specs.Rules.{task_fault, no_task}
use Rattle.table_rules.specs.Judging.{judged}
use Rattle.table_rules.specs.Tidy.{Tidy}
use Rattle.table_rules.proofs.Exactly.{judged_accepted}
use Rattle.table_reading.specs.Row.{Marked}
use Rattle.table_reading.specs.Table.{Whole, bytes_at, task_from, table_of, beside, read_answer, read_table}
use Rattle.table_reading.proofs.Exactly.{read_accepted, length_at}
use Rattle.table_reading.proofs.Records.{record_task}

-- the table of all records, good or not
abbrev pub count : List ℕ → ℕ
count s = length s / 16

abbrev pub given : List ℕ → Table
given s = table_of s (count s)

zero_place : (i : ℕ) → get_or (replicate 16 no_task) i no_task ≡ no_task
zero_place i = go (dec_lt i 16)
  where
    go : Dec (i < 16) → get_or (replicate 16 no_task) i no_task ≡ no_task
    go (yes q) = get_or-replicate 16 i no_task no_task q
    go (no q) = get_or-eq_default (replicate 16 no_task) no_task {n = i} (omega arith)

pub answer_is : (s : List ℕ) → (read_table s).answer ≡ read_answer s
unfolding read_table
answer_is s = go (read_answer s)
  where
    go : (a : Answer) → (beside a (given s)).answer ≡ a
    go Accepted = refl
    go (Refused n p) = refl

module _ (s : List ℕ) (good : read_answer s ≡ Accepted) where
  pub whole : Whole s
  whole = ((read_accepted s).0 good).0

  pub task_there : (i : ℕ) → i < count s → get_or (given s).tasks i no_task ≡ task_from s i
  task_there i h = filled_below (task_from s) (replicate 16 no_task) no_task (count s) i whole.counted.most h

  pub fault_there : (i : ℕ) → i < count s → Marked (bytes_at s i) × (task_fault (task_from s i) ≡ 0)
  fault_there i h = (record_task (bytes_at s i) (length_at s i h) 0 (λ z. omega (arith, z))).0 (((read_accepted s).0 good).1 i h)

  pub given_good : judged (given s) ≡ Accepted
  given_good = (judged_accepted (given s)).1 (whole.counted, λ i h. rw (task_there i h) (fault_there i h).1)

  pub given_is : (read_table s).table ≡ given s
  unfolding read_table
  given_is = rw good

  -- what was read has zeros past the last task
  pub read_tidy : Tidy (read_table s).table
  read_tidy =
      rw given_is
      (record {
        places = length_filled (task_from s) (replicate 16 no_task) no_task (count s);
        zeros = λ i h. filled_past (task_from s) (replicate 16 no_task) no_task (count s) i h ∙ zero_place i;
      }
      )

-- what was read has no refusal of its own left
pub read_good : (s : List ℕ) → (read_table s).answer ≡ Accepted → judged (read_table s).table ≡ Accepted
read_good s e =
    let good = sym (answer_is s) ∙ e in
    rw (given_is s good) (given_good s good)
