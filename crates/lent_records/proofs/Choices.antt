-- The choice over a lent row is its least open job, whatever its length, and over the tasks of a state it is the state's: no record past the tasks is looked
-- at.
use Prim.Native.Nat.{ℕ, zero, suc, min, ◌≤◌, ◌<◌}
use mathlib.Core.Path.{◌≡◌, refl, sym, ◌∙◌}
use mathlib.Core.Bool.{true, false}
use mathlib.Core.List.{List}
use native.Mathlib.Nat.{le_refl}
use native.Mathlib.Omega.{arith}
use lib.ListN.{length, get_or, take, length-take}
use lib.Seq.{get_or-take}
use Rattle.task_records.specs.declared.Record.{Record}
use Rattle.task_steps.specs.Opening.{no_record}
use Rattle.laws.proofs.Tests.{true_not_false}
use Rattle.state_choice.specs.Best.{Best}
use Rattle.state_rules.specs.declared.State.{State}
use Rattle.state_choice.specs.Choice.{best_to}
use Rattle.state_rules.specs.Choice.{chosen}
use Rattle.state_choice.proofs.Least.{Found, some, nothing, best_is, least_exactly}
use Rattle.lent_records.specs.Row.{row_of, LeastIn}

-- of a row of any length: the open job above every other one, or none, exactly if nothing is open
pub row_least : (l : List Record) → Found l (length l) (best_to l (length l))
row_least l = best_is l (length l)

-- the same in the rules' words, D being a number of 32 bits as in every record
pub row_chosen : (l : List Record) → ((i : ℕ) → i < length l → (get_or l i no_record).task.d < 4294967296) → (best_to l (length l)).found ≡ true
    → LeastIn l (best_to l (length l)).at
row_chosen l small e = go (best_to l (length l)) (row_least l) e
  where
    go : (b : Best) → Found l (length l) b → b.found ≡ true → LeastIn l b.at
    go b (some {p} f) q = (least_exactly l (length l) small p).0 f
    go b (nothing f) q = absurd (true_not_false (sym q))

pub row_idle : (l : List Record) → (best_to l (length l)).found ≡ false → (i : ℕ) → i < length l → (get_or l i no_record).live ≡ false
row_idle l e = go (best_to l (length l)) (row_least l) e
  where
    go : (b : Best) → Found l (length l) b → b.found ≡ false → (i : ℕ) → i < length l → (get_or l i no_record).live ≡ false
    go b (some f) q = absurd (true_not_false q)
    go b (nothing f) q = f

-- the first n records say all of the best of no more than n
pub best_front : (l : List Record) (n k : ℕ) → k ≤ n → best_to (take n l) k ≡ best_to l k
unfolding best_to
best_front l n zero h = refl
best_front l n (suc k) h = rw (best_front l n k (omega arith), get_or-take n l k no_record h)

pub state_choice : (s : State) → s.count ≤ 16 → s.count ≤ length s.records → best_to (row_of s) (length (row_of s)) ≡ chosen s
state_choice s m h =
    let n : length (row_of s) ≡ s.count = length-take s.count s.records ∙ omega arith in
    let k : min s.count 16 ≡ s.count = omega arith in
    rw (n, k) (best_front s.records s.count s.count (le_refl s.count))
