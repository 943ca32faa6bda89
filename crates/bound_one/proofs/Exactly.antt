-- Each refusal of one bound is given exactly when the rules say: the table's own first, then 10, then 13; and a bound is answered exactly where it is the
-- task's.
use Prim.Native.Nat.{ℕ, ◌≤◌, ◌<◌}
use mathlib.Core.Path.{◌≡◌, refl, sym, ap}
use mathlib.Core.Bool.{Bool, true, false, cond}
use mathlib.Core.Logic.{◌↔◌}
use native.Mathlib.Decide.{ℕ_discrete}
use native.Mathlib.Omega.{arith}
use borrow.Author.Tests.{lt-ltb, le-ltb, ltb-true, ltb-false}
use lib.Dec.{ltb}
use Rattle.std.specs.Prelude.{Option, Some, None}
use Rattle.laws.proofs.Tests.{impossible, single}
use Rattle.table_rules.specs.declared.Table.{Table}
use Rattle.table_rules.specs.Answers.{Answer}
use Rattle.table_rules.specs.Judging.{judged}
use Rattle.table_rules.proofs.Exactly.{judged_at}
use Rattle.table_rules.proofs.Ruling.{fault_among}
use Rattle.bound_demand.specs.Above.{task_at}
use Rattle.bound_search.specs.Bound.{IsBound, NoBound, bound_of}
use Rattle.bound_search.proofs.Meets.{bound_is, bound_none}
use Rattle.bound_one.specs.Bound.{Bound}
use Rattle.bound_one.specs.Answers.{bound_number, bound_position, bound_value}
use Rattle.bound_one.specs.Asked.{or_thirteen, own_then_one, one_answer}

-- the ways in which one bound is answered
pub data One (t : Table) (k : ℕ) : Bound → Type 0 where
  own : {n p : ℕ} → judged t ≡ Answer.Refused n p → One t k (Bound.Refused n p)
  past : judged t ≡ Answer.Accepted → t.count ≤ k → One t k (Bound.Refused 10 k)
  none : judged t ≡ Answer.Accepted → k < t.count → NoBound t k → One t k (Bound.Refused 13 k)
  found : {r : ℕ} → judged t ≡ Answer.Accepted → k < t.count → IsBound t k r → One t k (Bound.At r)

module _ (t : Table) where
  -- judging a table gives no number above 4
  pub own_small : (n p : ℕ) → judged t ≡ Answer.Refused n p → n ≤ 4
  own_small n p e = go (ℕ_discrete n 1)
    where
      go : Dec (n ≡ 1) → n ≤ 4
      go (yes z) = omega arith
      go (no z) =
          let f = ((judged_at t n p z).0 e).1.fault in
          rw f at (fault_among (task_at t p) (λ (x : ℕ). x ≤ 4) (omega arith) (omega arith) (omega arith))

  module _ (k : ℕ) where
    pub one_case : One t k (one_answer t k)
    unfolding one_answer
    one_case = go (judged t) (ltb k t.count) (bound_of t k) refl refl refl
      where
        go : (a : Answer) (b : Bool) (f : Option ℕ) → judged t ≡ a → ltb k t.count ≡ b → bound_of t k ≡ f
            → One t k (own_then_one a (cond b (or_thirteen f k) (Bound.Refused 10 k)))
        go (Answer.Refused n p) b f e q g = own e
        go Answer.Accepted false f e q g = past e (ltb-false k t.count q)
        go Answer.Accepted true None e q g = none e (ltb-true k t.count q) ((bound_none t k).0 g)
        go Answer.Accepted true (Some r) e q g = found e (ltb-true k t.count q) ((bound_is t k r).0 g)

    -- an answer in one of these ways is the answer, so there is a single one
    one_only : (a : Bound) → One t k a → a ≡ one_answer t k
    unfolding one_answer
    one_only (Bound.Refused n p) (own e) = rw e
    one_only _ (past e h) = rw (e, le-ltb k t.count h)
    one_only _ (none e h n) = rw (e, lt-ltb k t.count h, (bound_none t k).1 n)
    one_only (Bound.At r) (found e h b) = rw (e, lt-ltb k t.count h, (bound_is t k r).1 b)

    pub one_single : (a b : Bound) → One t k a → One t k b → a ≡ b
    one_single a b p q = single (one_only a p) (one_only b q)

    pub one_own : (n p : ℕ) → judged t ≡ Answer.Refused n p → one_answer t k ≡ Bound.Refused n p
    unfolding one_answer
    one_own n p e = rw e

    pub one_10 : (bound_number (one_answer t k) ≡ 10) ↔ ((judged t ≡ Answer.Accepted) × (t.count ≤ k))
    one_10 = (go (one_answer t k) one_case, λ r. ap bound_number (sym (one_only _ (past r.0 r.1))))
      where
        go : (b : Bound) → One t k b → bound_number b ≡ 10 → (judged t ≡ Answer.Accepted) × (t.count ≤ k)
        go (Bound.Refused n p) (own e) z = absurd (omega (arith, own_small n p e, z))
        go _ (past e h) z = (e, h)
        go _ (none e h n) z = absurd (omega (arith, z))
        go _ (found e h b) z = absurd (omega (arith, z))

    pub one_13 : (bound_number (one_answer t k) ≡ 13) ↔ ((judged t ≡ Answer.Accepted) × (k < t.count) × NoBound t k)
    one_13 = (go (one_answer t k) one_case, λ r. ap bound_number (sym (one_only _ (none r.0 r.1 r.2))))
      where
        go : (b : Bound) → One t k b → bound_number b ≡ 13 → (judged t ≡ Answer.Accepted) × (k < t.count) × NoBound t k
        go (Bound.Refused n p) (own e) z = absurd (omega (arith, own_small n p e, z))
        go _ (past e h) z = absurd (omega (arith, z))
        go _ (none e h n) z = (e, h, n)
        go _ (found e h b) z = absurd (omega (arith, z))

    -- 10 and 13 carry the position that was asked
    pub one_position : judged t ≡ Answer.Accepted → bound_value (one_answer t k) ≡ 0 → bound_position (one_answer t k) ≡ k
    one_position a = go (one_answer t k) one_case
      where
        go : (b : Bound) → One t k b → bound_value b ≡ 0 → bound_position b ≡ k
        go _ (own e) z = impossible cc
        go _ (past e h) z = refl
        go _ (none e h n) z = refl
        go _ (found e h b) z = absurd (omega (arith, z, b.some))

    pub one_found : (r : ℕ) → (one_answer t k ≡ Bound.At r) ↔ ((judged t ≡ Answer.Accepted) × (k < t.count) × IsBound t k r)
    one_found r = (go (one_answer t k) one_case, λ q. sym (one_only _ (found q.0 q.1 q.2)))
      where
        go : (b : Bound) → One t k b → b ≡ Bound.At r → (judged t ≡ Answer.Accepted) × (k < t.count) × IsBound t k r
        go _ (own e) z = impossible cc
        go _ (past e h) z = impossible cc
        go _ (none e h n) z = impossible cc
        go (Bound.At s) (found e h b) z = let y : s ≡ r = cc in (e, h, rw y at b)
