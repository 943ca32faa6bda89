-- Each refusal of all bounds is given exactly when the rules say: the table's own first, then 14, then 13 at the first position that has none; and all are
-- answered exactly where every task has one.
use Prim.Native.Nat.{ℕ, ◌≤◌, ◌<◌}
use mathlib.Core.Path.{◌≡◌, refl, sym, ap, ◌∙◌}
use mathlib.Core.Bool.{Bool, true, false, cond}
use mathlib.Core.Logic.{◌↔◌}
use native.Mathlib.Omega.{arith}
use borrow.Author.Tests.{le-leb, lt-leb, leb-true, leb-false}
use lib.Dec.{leb}
use Rattle.std.specs.Prelude.{Option, Some, None}
use Rattle.laws.proofs.Tests.{impossible, single}
use Rattle.table_rules.specs.declared.Table.{Table}
use Rattle.table_rules.specs.Answers.{Answer}
use Rattle.table_rules.specs.Answers.{number_of, position_of}
use Rattle.table_rules.specs.Judging.{judged, first_fault}
use Rattle.table_rules.proofs.Faults.{First, none_if, none_then, found_if, found_then}
use Rattle.bound_search.specs.Answers.{found_number}
use Rattle.bound_search.specs.Bound.{IsBound, NoBound, bound_of}
use Rattle.bound_search.proofs.Meets.{bound_is, bound_none}
use Rattle.bound_one.proofs.Exactly.{own_small}
use Rattle.bound_all.specs.Asked.{own_then_all, bound_fault, all_answer}

module _ (t : Table) (k : ℕ) where
  fault_is : (f : Option ℕ) → bound_of t k ≡ f → found_number f ≡ 0 → (r : ℕ) × IsBound t k r
  fault_is (Some r) e z = (r, (bound_is t k r).0 e)
  fault_is None e z = absurd (omega (arith, z))

  fault_none : (f : Option ℕ) → bound_of t k ≡ f → found_number f ≡ 13 → NoBound t k
  fault_none (Some r) e z = absurd (omega (arith, z))
  fault_none None e z = (bound_none t k).0 e

  -- a position is at fault exactly where it has no bound
  pub faultless : (bound_fault t k ≡ 0) ↔ ((r : ℕ) × IsBound t k r)
  faultless = (fault_is (bound_of t k) refl, λ b. ap found_number ((bound_is t k b.0).1 b.1))

  pub faulty : (bound_fault t k ≡ 13) ↔ NoBound t k
  faulty = (fault_none (bound_of t k) refl, λ n. ap found_number ((bound_none t k).1 n))

  -- no other number is given
  fault_thirteen : (bound_fault t k ≡ 0 → ⊥) → bound_fault t k ≡ 13
  fault_thirteen = go (bound_of t k)
    where
      go : (f : Option ℕ) → (found_number f ≡ 0 → ⊥) → found_number f ≡ 13
      go (Some r) n = absurd (n refl)
      go None n = refl

-- the first position that has no bound
pub record FirstWithout (t : Table) (p : ℕ) : Type 0 where
  pub below : p < t.count
  pub none : NoBound t p
  pub before : (i : ℕ) → i < p → (r : ℕ) × IsBound t i r

-- the ways in which all bounds are answered
pub data All (t : Table) (room : ℕ) : Answer → Type 0 where
  own : {n p : ℕ} → judged t ≡ Answer.Refused n p → All t room (Answer.Refused n p)
  short : judged t ≡ Answer.Accepted → room < t.count → All t room (Answer.Refused 14 0)
  none : {p : ℕ} → judged t ≡ Answer.Accepted → t.count ≤ room → FirstWithout t p → All t room (Answer.Refused 13 p)
  each : judged t ≡ Answer.Accepted → t.count ≤ room → ((i : ℕ) → i < t.count → (r : ℕ) × IsBound t i r) → All t room Answer.Accepted

module _ (t : Table) (room : ℕ) where
  without : (p : ℕ) → First (bound_fault t) t.count 13 p → FirstWithout t p
  without p f = record { below = f.below; none = (faulty t p).0 f.fault; before = λ i h. (faultless t i).0 (f.none i h) }

  pub all_case : All t room (all_answer t room)
  all_case = go (judged t) (leb t.count room) (first_fault (bound_fault t) t.count) refl refl refl
    where
      go : (a : Answer) (b : Bool) (f : Answer) → judged t ≡ a → leb t.count room ≡ b → first_fault (bound_fault t) t.count ≡ f
          → All t room (own_then_all a (cond b f (Answer.Refused 14 0)))
      go (Answer.Refused n p) b f e q g = own e
      go Answer.Accepted false f e q g = short e (leb-false t.count room q)
      go Answer.Accepted true Answer.Accepted e q g =
          each e (leb-true t.count room q) (λ i h. (faultless t i).0 (none_then (bound_fault t) t.count g i h))
      go Answer.Accepted true (Answer.Refused n p) e q g =
          let f = found_then (bound_fault t) t.count n p g in
          let z : n ≡ 13 = sym f.fault ∙ fault_thirteen t p (λ y. f.some (sym f.fault ∙ y)) in
          rw z (none e (leb-true t.count room q) (without p (rw z at f)))

  first_without : (p : ℕ) → FirstWithout t p → first_fault (bound_fault t) t.count ≡ Answer.Refused 13 p
  first_without p f =
      found_if (bound_fault t) t.count 13 p
      (record { below = f.below; fault = (faulty t p).1 f.none; some = λ z. omega (arith, z); none = λ i h. (faultless t i).1 (f.before i h) })

  all_only : (a : Answer) → All t room a → a ≡ all_answer t room
  all_only (Answer.Refused n p) (own e) = rw e
  all_only _ (short e h) = rw (e, lt-leb t.count room h)
  all_only (Answer.Refused _ p) (none e h f) = rw (e, le-leb t.count room h, first_without p f)
  all_only _ (each e h f) =
      rw (e, le-leb t.count room h, none_if (bound_fault t) t.count (λ i q. (faultless t i).1 (f i q)))

  pub all_single : (a b : Answer) → All t room a → All t room b → a ≡ b
  all_single a b p q = single (all_only a p) (all_only b q)

  pub all_own : (n p : ℕ) → judged t ≡ Answer.Refused n p → all_answer t room ≡ Answer.Refused n p
  all_own n p e = rw e

  pub all_14 : (number_of (all_answer t room) ≡ 14) ↔ ((judged t ≡ Answer.Accepted) × (room < t.count))
  all_14 = (go (all_answer t room) all_case, λ r. ap number_of (sym (all_only _ (short r.0 r.1))))
    where
      go : (a : Answer) → All t room a → number_of a ≡ 14 → (judged t ≡ Answer.Accepted) × (room < t.count)
      go (Answer.Refused n p) (own e) z = absurd (omega (arith, own_small t n p e, z))
      go _ (short e h) z = (e, h)
      go _ (none e h f) z = absurd (omega (arith, z))
      go _ (each e h f) z = absurd (omega (arith, z))

  pub all_13 : (p : ℕ) → (all_answer t room ≡ Answer.Refused 13 p) ↔ ((judged t ≡ Answer.Accepted) × (t.count ≤ room) × FirstWithout t p)
  all_13 p = (go (all_answer t room) all_case, λ r. sym (all_only _ (none r.0 r.1 r.2)))
    where
      go : (a : Answer) → All t room a → a ≡ Answer.Refused 13 p → (judged t ≡ Answer.Accepted) × (t.count ≤ room) × FirstWithout t p
      go (Answer.Refused n q) (own e) z = let y : n ≡ 13 = cc in absurd (omega (arith, own_small t n q e))
      go _ (short e h) z = impossible cc
      go (Answer.Refused _ q) (none e h f) z = let y : q ≡ p = cc in (e, h, rw y at f)
      go _ (each e h f) z = impossible cc

  pub all_accepted : (all_answer t room ≡ Answer.Accepted)
      ↔ ((judged t ≡ Answer.Accepted) × (t.count ≤ room) × ((i : ℕ) → i < t.count → (r : ℕ) × IsBound t i r))
  all_accepted = (go (all_answer t room) all_case, λ r. sym (all_only _ (each r.0 r.1 r.2)))
    where
      go : (a : Answer) → All t room a → a ≡ Answer.Accepted → (judged t ≡ Answer.Accepted) × (t.count ≤ room)
          × ((i : ℕ) → i < t.count → (r : ℕ) × IsBound t i r)
      go _ (own e) z = impossible cc
      go _ (short e h) z = impossible cc
      go _ (none e h f) z = impossible cc
      go _ (each e h f) z = (e, h, f)

  -- 14 carries 0
  pub all_position : number_of (all_answer t room) ≡ 14 → position_of (all_answer t room) ≡ 0
  all_position = go (all_answer t room) all_case
    where
      go : (a : Answer) → All t room a → number_of a ≡ 14 → position_of a ≡ 0
      go (Answer.Refused n p) (own e) z = absurd (omega (arith, own_small t n p e, z))
      go _ (short e h) z = refl
      go _ (none e h f) z = absurd (omega (arith, z))
      go _ (each e h f) z = refl
