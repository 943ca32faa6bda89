-- The marks are the word of the last K outcomes: to push one more is to take one more outcome and let the oldest go.
use Prim.Native.Nat.{ℕ, zero, suc, ◌+◌, ◌-◌, ◌*◌, ◌/◌, ◌%◌, ◌^◌, ◌≤◌, ◌<◌, min}
use mathlib.Core.Path.{◌≡◌, refl, sym, ap, ◌∙◌}
use mathlib.Core.Bool.{Bool, true, false}
use mathlib.Core.List.{List, [], ◌∷◌}
use native.Mathlib.Nat.{zero-mod, pow-suc}
use native.Mathlib.Numerals.{add-one, one-add}
use native.Mathlib.Omega.{arith}
use lib.ListN.{length, take, length-take}
use lib.Seq.{take-nil}
use lib.Pow.{mod-pow-add, mod-mod-pow}
use lib.Count.{ones, ones_cat}
use Rattle.table_rules.specs.declared.Task.{Task}
use Rattle.table_rules.specs.Rules.{Misses}
use Rattle.task_records.specs.declared.Record.{Record}
use Rattle.task_marks.specs.Marks.{pushed}
use Rattle.task_records.specs.Window.{window_of}
use Rattle.task_records.specs.Closing.{closed}
use Rattle.task_steps.specs.Opening.{opened}
use Rattle.run_windows.specs.Outcomes.{misses, last_misses}
use Rattle.run_windows.specs.History.{History, start, release, close}
use Rattle.run_windows.proofs.Counts.{counts}
use Rattle.run_windows.proofs.Words.{mark_of, word_of}

mark_below : (o : Bool) → mark_of o < 2
mark_below true = omega arith
mark_below false = omega arith

ones_mark : (o : Bool) (os : List Bool) → misses os + ones (mark_of o) ≡ misses (o ∷ os)
unfolding ones
ones_mark true os = omega arith
ones_mark false os = omega arith

pub count_word : (os : List Bool) → ones (word_of os) ≡ misses os
unfolding ones
count_word [] = refl
count_word (o ∷ os) = ones_cat 1 (word_of os) (mark_of o) (mark_below o) ∙ rw (count_word os) (ones_mark o os)

pub word_below : (os : List Bool) → word_of os < 2 ^ length os
word_below [] = omega arith
word_below (o ∷ os) = rw (pow-suc 2 (length os)) (omega (arith, word_below os, mark_below o))

-- a mark more, kept within k + 1 places
shift_mod : (w b k : ℕ) → b < 2 → (w * 2 + b) % 2 ^ suc k ≡ (w % 2 ^ k) * 2 + b
shift_mod w b k h =
    let p : (w * 2 + b) / 2 ≡ w = omega arith in
    let q : (w * 2 + b) % 2 ≡ b = omega arith in
    rw (← add-one k, mod-pow-add (w * 2 + b) k 1, p, q)

-- the lowest k places of a word are the last k outcomes
low_word : (k : ℕ) (os : List Bool) → word_of os % 2 ^ k ≡ word_of (take k os)
low_word zero os = omega arith
low_word (suc k) [] = zero-mod _
low_word (suc k) (o ∷ os) = shift_mod (word_of os) (mark_of o) k (mark_below o) ∙ rw (low_word k os)

pub push_word : (k : ℕ) (o : Bool) (os : List Bool) → 1 ≤ k → k ≤ 64 → pushed k (word_of (take k os)) (mark_of o) ≡ word_of (take k (o ∷ os))
push_word zero o os p q = absurd (omega arith)
push_word (suc k) o os p q =
    let e : min (suc k) 64 - 1 ≡ k = omega arith in
    let f : word_of os % 2 ^ suc k % 2 ^ k ≡ word_of os % 2 ^ k = rw (← one-add k) (mod-mod-pow (word_of os) 1 k) in
    rw (e, ← low_word (suc k) os, f, low_word k os)

module _ {task : Task} (rules : Misses task) where
  -- the marks that closing leaves, for a record that held the marks of its outcomes
  pub push_marks : (r : Record) (o : Bool) (os : List Bool) → r.task ≡ task → r.marks ≡ word_of (take task.k os)
      → pushed r.task.k r.marks (mark_of o) ≡ word_of (take task.k (o ∷ os))
  push_marks r o os e f = rw (e, f) (push_word task.k o os rules.window rules.widest)

  pub marks_are : {os : List Bool} {r : Record} → History task os r → r.marks ≡ word_of (take task.k os)
  unfolding opened closed
  marks_are start = ap word_of (sym (take-nil task.k))
  marks_are (release t idle room h) = marks_are h
  marks_are (close {os = os} {r = r} true live h) = push_marks r true os (counts h).same (marks_are h)
  marks_are (close {os = os} {r = r} false live h) = push_marks r false os (counts h).same (marks_are h)

  -- no mark outside the lowest bits, as many as the lesser of K and the closed jobs
  pub marks_below : {os : List Bool} {r : Record} → History task os r → r.marks < 2 ^ min task.k (length os)
  marks_below {os = os} h = rw (marks_are h, ← length-take task.k os) (word_below (take task.k os))

  -- the window number: the misses among the last K closed jobs, or among all of them if fewer have closed
  pub window_is : {os : List Bool} {r : Record} → History task os r → window_of r ≡ last_misses task.k os
  window_is {os = os} h = ap ones (marks_are h) ∙ count_word (take task.k os)
