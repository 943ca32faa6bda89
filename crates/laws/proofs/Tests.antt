-- What a test tells of the fact that it stands for, and of the values that it picks: by its two cases.
use Prim.Native.Nat.{ℕ, zero, suc, ◌+◌, ◌-◌, ◌≤◌, ◌<◌}
use mathlib.Core.Path.{◌≡◌, refl, sym, ◌∙◌}
use mathlib.Core.Bool.{Bool, true, false, cond, not}
use mathlib.Core.List.{List, [], ◌∷◌}
use native.Mathlib.Decide.{dec_le, dec_lt}
use native.Mathlib.Omega.{arith}
use borrow.Author.Tests.{le-leb, lt-leb, lt-ltb, le-ltb}
use lib.Dec.{T, leb, ltb}
use lib.ListN.{get_or}
use Rattle.laws.specs.Tests.{all_of, whenever}

-- a contract `r ≡ x` admits a single answer
pub single : {A : Type 0} {x a b : A} → a ≡ x → b ≡ x → a ≡ b
single p q = p ∙ sym q

-- a case that cannot be: where `cc` shows that 0 is 1, anything follows
pub impossible : {A : Type 0} → ◌≡◌ {A = ℕ} 0 1 → A
impossible e = absurd (omega arith)

pub true_not_false : true ≡ false → ⊥
true_not_false e = impossible cc

-- a test that is true only where a fact holds is false where it does not
pub test_false : {P : Type 0} (b : Bool) → (b ≡ true → P) → (P → ⊥) → b ≡ false
test_false true f n = absurd (n (f refl))
test_false false f n = refl

-- a fact that makes a test true does not hold where the test is false
pub fact_not : {P : Type 0} {b : Bool} → (P → b ≡ true) → b ≡ false → P → ⊥
fact_not f q p = true_not_false (sym (f p) ∙ q)

pub same_test : (b : Bool) → cond b true false ≡ b
same_test true = refl
same_test false = refl

-- a value that a known test picks, and one that a test picks either way
pub cond_yes : {A : Type 0} (b : Bool) (x y : A) → b ≡ true → cond b x y ≡ x
cond_yes true x y e = refl
cond_yes false x y e = impossible cc

pub cond_no : {A : Type 0} (b : Bool) (x y : A) → b ≡ false → cond b x y ≡ y
cond_no true x y e = impossible cc
cond_no false x y e = refl

pub cond_same : {A : Type 0} (b : Bool) (x : A) → cond b x x ≡ x
cond_same true x = refl
cond_same false x = refl

-- a test of a walk, as an equation
pub test_held : (b : Bool) → T b → b ≡ true
test_held true t = refl
test_held false t = absurd t

pub test_failed : (b : Bool) → T (not b) → b ≡ false
test_failed true t = absurd t
test_failed false t = refl

-- where all tests hold, each does
pub each_holds : (bs : List Bool) → all_of bs ≡ true → (i : ℕ) → get_or bs i true ≡ true
each_holds [] e i = refl
each_holds (true ∷ bs) e zero = refl
each_holds (true ∷ bs) e (suc i) = each_holds bs e i
each_holds (false ∷ bs) e i = impossible cc

-- a test tells whether P holds
pub record Tells (b : Bool) (P : Type 0) : Type 0 where
  pub holds : b ≡ true → P
  pub fails : b ≡ false → P → ⊥

pub tells : {b : Bool} {P : Type 0} → (b ≡ true → P) → (P → b ≡ true) → Tells b P
tells f g = record { holds = f; fails = fact_not g }

pub tells_true : {b : Bool} {P : Type 0} → Tells b P → P → b ≡ true
tells_true {b = true} t p = refl
tells_true {b = false} t p = absurd (t.fails refl p)

pub tells_false : {b : Bool} {P : Type 0} → Tells b P → (P → ⊥) → b ≡ false
tells_false {b} t n = test_false b t.holds n

-- a sum below t, tested without the sum
pub below_less : (a d t : ℕ) → ltb a (t - d) ≡ ltb (a + d) t
below_less a d t = go (dec_lt (a + d) t)
  where
    go : Dec (a + d < t) → ltb a (t - d) ≡ ltb (a + d) t
    go (yes p) = lt-ltb a (t - d) (omega arith) ∙ sym (lt-ltb (a + d) t p)
    go (no q) = le-ltb a (t - d) (omega arith) ∙ sym (le-ltb (a + d) t (omega arith))

-- t at most a sum, tested without the sum
pub least_less : (a d t : ℕ) → leb (t - d) a ≡ leb t (a + d)
least_less a d t = go (dec_le t (a + d))
  where
    go : Dec (t ≤ a + d) → leb (t - d) a ≡ leb t (a + d)
    go (yes p) = le-leb (t - d) a (omega arith) ∙ sym (le-leb t (a + d) p)
    go (no q) = lt-leb (t - d) a (omega arith) ∙ sym (lt-leb t (a + d) (omega arith))

-- t below a sum, tested without the sum
pub under_less : (a d t : ℕ) → a ≤ t → ltb (t - a) d ≡ ltb t (a + d)
under_less a d t h = go (dec_lt t (a + d))
  where
    go : Dec (t < a + d) → ltb (t - a) d ≡ ltb t (a + d)
    go (yes p) = lt-ltb (t - a) d (omega arith) ∙ sym (lt-ltb t (a + d) p)
    go (no q) = le-ltb (t - a) d (omega arith) ∙ sym (le-ltb t (a + d) (omega arith))

-- two tests of which the second counts only where the first holds
pub both_hold : (a b : Bool) → cond a b false ≡ true → (a ≡ true) × (b ≡ true)
both_hold true b e = (refl, e)
both_hold false b e = impossible cc

pub both_true : (a b : Bool) → a ≡ true → b ≡ true → cond a b false ≡ true
both_true true b p q = q
both_true false b p q = p

pub whenever_holds : (a b : Bool) → whenever a b ≡ true → a ≡ true → b ≡ true
whenever_holds true b e q = e
whenever_holds false b e q = impossible cc

pub whenever_if : (a b : Bool) → (a ≡ true → b ≡ true) → whenever a b ≡ true
whenever_if true b f = f refl
whenever_if false b f = refl

-- what both ways of a test have, the one that is taken has; so too of two values by one test
pub by_test : {A : Type 0} (P : A → Type 0) (b : Bool) (x y : A) → (b ≡ true → P x) → (b ≡ false → P y) → P (cond b x y)
by_test P true x y f g = f refl
by_test P false x y f g = g refl

pub by_both : {A B : Type 0} (P : A → B → Type 0) (b : Bool) (x y : A) (u v : B)
    → (b ≡ true → P x u) → (b ≡ false → P y v) → P (cond b x y) (cond b u v)
by_both P true x y u v f g = f refl
by_both P false x y u v f g = g refl
