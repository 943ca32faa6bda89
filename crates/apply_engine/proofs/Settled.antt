-- The row after an accepted event, made in place: its own task's record is stored first, then each late record is closed, position by position, and
-- the best job so far goes with it. It is step 1 on the row as it was and the record stored after it, since that record is not late.
use Prim.Native.Nat.{ℕ, suc, min, ◌≤◌, ◌<◌}
use mathlib.Core.Path.{◌≡◌, refl, sym, ap, ◌∙◌}
use mathlib.Core.Bool.{true, false}
use mathlib.Core.List.{List}
use native.Mathlib.Decide.{dec_lt, ℕ_discrete}
use native.Mathlib.Nat.{le_refl}
use native.Mathlib.Omega.{arith}
use lib.ListN.{length, get_or, set, length-set}
use lib.Seq.{get_or-set_same, get_or-set_other, set-get_or, ext_get_or}
use Rattle.laws.specs.Stores.{filled}
use Rattle.laws.proofs.Stores.{length_filled, filled_below, filled_past}
use Rattle.task_records.specs.declared.Record.{Record}
use Rattle.task_records.specs.Closing.{closed}
use Rattle.task_steps.specs.Opening.{late, expired, no_record}
use Rattle.state_choice.specs.Best.{Best}
use Rattle.state_rules.specs.declared.State.{State}
use Rattle.state_rules.specs.Sound.{StateSound}
use Rattle.state_choice.specs.Choice.{none, better, best_to}
use Rattle.state_choice.proofs.Least.{best_stored, best_within}
use Rattle.apply_events.specs.Steps.{expired_all}
use Rattle.apply_events.specs.Apply.{told_of, moved, accepted}
use Rattle.apply_events.proofs.Places.{places}

module _ (l : List Record) (t : ℕ) where
  -- every late record of the first n closed
  abbrev pub settled_to : ℕ → List Record
  settled_to n = filled (λ i. expired (get_or l i no_record) t) n l

  -- the row and the best job once n positions are passed
  pub record Settling (n : ℕ) (row : List Record) (best : Best) : Type 0 where
    pub rows : row ≡ settled_to n
    pub least : best ≡ best_to row n

  pub settling_none : Settling 0 l none
  unfolding filled best_to
  settling_none = record { rows = refl; least = refl }

  -- one position more
  pub settling_more : (n : ℕ) (row : List Record) (best : Best) → Settling n row best
      → (new : List Record) → new ≡ set row n (expired (get_or row n no_record) t) → Settling (suc n) new (better best (get_or new n no_record) n)
  unfolding filled best_to
  settling_more n row best g new e =
      let there : get_or row n no_record ≡ get_or l n no_record =
      ap (λ (x : List Record). get_or x n no_record) g.rows ∙ filled_past (λ i. expired (get_or l i no_record) t) l no_record n n (le_refl n) in
      record {
        rows = e ∙ rw (there, g.rows);
        least = ap (λ (b : Best). better b (get_or new n no_record) n) g.least ∙
            ap (λ (b : Best). better b (get_or new n no_record) n)
            (sym (ap (λ (x : List Record). best_to x n) e ∙ best_stored row n (expired (get_or row n no_record) t)));
      }

-- a late record is closed, and another stays
pub late_closed : (row : List Record) (t n : ℕ) → late (get_or row n no_record) t ≡ true
    → set row n (closed (get_or row n no_record) false) ≡ set row n (expired (get_or row n no_record) t)
unfolding expired
late_closed row t n e = rw e

pub prompt_stays : (row : List Record) (t n : ℕ) → late (get_or row n no_record) t ≡ false → row ≡ set row n (expired (get_or row n no_record) t)
unfolding expired
prompt_stays row t n e = rw e (sym (set-get_or row n no_record))

prompt_same : (x : Record) (t : ℕ) → late x t ≡ false → expired x t ≡ x
unfolding expired
prompt_same x t p = rw p

-- a record that is not late may be stored before step 1 as well as after it
pub stored_first : (l : List Record) (t n k : ℕ) (x : Record) → n ≤ length l → k < n → late x t ≡ false
    → settled_to (set l k x) t n ≡ set (settled_to l t n) k x
stored_first l t n k x h b p =
    ext_get_or no_record (settled_to l₁ t n) (set (settled_to l t n) k x) sizes (λ i q. go i (rw long at q) (ℕ_discrete i k) (dec_lt i n))
  where
    l₁ : List Record
    l₁ = set l k x

    long : length (settled_to l₁ t n) ≡ length l
    long = length_filled _ l₁ no_record n ∙ length-set l k x

    sizes : length (settled_to l₁ t n) ≡ length (set (settled_to l t n) k x)
    sizes = long ∙ sym (length-set (settled_to l t n) k x ∙ length_filled _ l no_record n)

    fits : n ≤ length l₁
    fits = rw (length-set l k x) h

    go : (i : ℕ) → i < length l → Dec (i ≡ k) → Dec (i < n) → get_or (settled_to l₁ t n) i no_record ≡ get_or (set (settled_to l t n) k x) i no_record
    go i q (yes e) c =
        rw (
          e,
          filled_below (λ j. expired (get_or l₁ j no_record) t) l₁ no_record n k fits b,
          get_or-set_same l k x no_record (omega arith),
          get_or-set_same (settled_to l t n) k x no_record (rw (length_filled (λ j. expired (get_or l j no_record) t) l no_record n) (omega arith)),
        )
        (prompt_same x t p)
    go i q (no e) (yes c) =
        rw (
          filled_below (λ j. expired (get_or l₁ j no_record) t) l₁ no_record n i fits c,
          get_or-set_other l k i x no_record e,
          get_or-set_other (settled_to l t n) k i x no_record e,
          filled_below (λ j. expired (get_or l j no_record) t) l no_record n i h c,
        )
    go i q (no e) (no c) =
        rw (
          filled_past (λ j. expired (get_or l₁ j no_record) t) l₁ no_record n i (omega arith),
          get_or-set_other l k i x no_record e,
          get_or-set_other (settled_to l t n) k i x no_record e,
          filled_past (λ j. expired (get_or l j no_record) t) l no_record n i (omega arith),
        )

-- with all positions passed, it is what the event is to leave, and the answer is told of the best job
pub settled_accepted : (s : State) (t k : ℕ) (x : Record) (row : List Record) (best : Best) → StateSound s → k < s.count → late x t ≡ false
    → Settling (set s.records k x) t s.count row best
    → accepted s t (set (expired_all s t) k x)
    ≡ record { answer = told_of best (get_or row best.at no_record).class; state = moved s t row }
settled_accepted s t k x row best p b f g =
    let e : row ≡ set (expired_all s t) k x = g.rows ∙ stored_first s.records t s.count k x (places s p) b f in
    let m : min s.count 16 ≡ s.count = omega (arith, p.counted.most) in
    rw (← e, m, g.least)

-- the best job of a state's tasks stands at one of the 16 places
pub best_placed : (l : List Record) (n : ℕ) → 1 ≤ n → (best_to l (min n 16)).at < 16
best_placed l n h = omega (arith, best_within l (min n 16) (omega arith))
