-- Judging an event value: the computed tests agree with the rules, both ways, by cases on the kind.
use Prim.Native.Nat.{ℕ, ◌≤◌, ◌<◌}
use mathlib.Core.Path.{◌≡◌, refl}
use mathlib.Core.Bool.{Bool, true, false, cond}
use mathlib.Core.Logic.{◌↔◌}
use native.Mathlib.Omega.{arith}
use borrow.Author.Tests.{ltb-true, ltb-false, eqb-true, eqb-false, lt-ltb, le-ltb, eq-eqb}
use lib.Dec.{ltb, eqb}
use Rattle.laws.proofs.Answers.{exactly}
use Rattle.laws.proofs.Tests.{test_false, fact_not, both_hold}
use Rattle.event_reading.specs.declared.Event.{Event}
use Rattle.event_reading.specs.Event.{Zeroed, Ruled, Judged, unknown, stray, sound, zeroes, fault_of}

pub zeroes_zeroed : (e : Event) → zeroes e ≡ true → Zeroed e
unfolding zeroes
zeroes_zeroed e t =
    record {
      tick_task = λ p. eqb-true _ _ (both_hold (eqb e.task 0) (eqb e.job 0) (rw (eq-eqb _ _ p) at t)).0;
      tick_job = λ p. eqb-true _ _ (both_hold (eqb e.task 0) (eqb e.job 0) (rw (eq-eqb _ _ p) at t)).1;
      release_job = λ p. eqb-true _ _ (rw p at t);
    }

pub zeroed_zeroes : (e : Event) → Zeroed e → zeroes e ≡ true
unfolding zeroes
zeroed_zeroes e z = go (eqb e.kind 0) refl (eqb e.kind 1) refl
  where
    go : (a : Bool) → eqb e.kind 0 ≡ a → (b : Bool) → eqb e.kind 1 ≡ b
        → cond a (cond (eqb e.task 0) (eqb e.job 0) false) (cond b (eqb e.job 0) true) ≡ true
    go true p b q = rw (z.tick_task (eqb-true _ _ p), z.tick_job (eqb-true _ _ p))
    go false p true q = rw (z.release_job (eqb-true _ _ q))
    go false p false q = refl

-- a tick and a release have no job
pub no_job : (e : Event) → e.kind ≤ 1 → Zeroed e → e.job ≡ 0
no_job e h z = go (eqb e.kind 0) refl
  where
    go : (b : Bool) → eqb e.kind 0 ≡ b → e.job ≡ 0
    go true p = z.tick_job (eqb-true _ _ p)
    go false p = z.release_job (omega (arith, eqb-false e.kind 0 p))

-- the number that a row of the table gives is the computed one
pub judged_only : {e : Event} {n : ℕ} → Judged e n → n ≡ fault_of e
unfolding fault_of
judged_only {e} (unknown p) = rw (lt-ltb _ _ p)
judged_only {e} (stray p z) = rw (le-ltb _ _ p, test_false (zeroes e) (zeroes_zeroed e) z)
judged_only {e} (sound r) = rw (le-ltb _ _ r.known, zeroed_zeroes e r.zeroed)

-- and every event has its row
pub judged_is : (e : Event) → Judged e (fault_of e)
unfolding fault_of
judged_is e = go (ltb 2 e.kind) refl (zeroes e) refl
  where
    go : (a : Bool) → ltb 2 e.kind ≡ a → (b : Bool) → zeroes e ≡ b → Judged e (cond a 7 (cond b 0 8))
    go true p b q = unknown (ltb-true _ _ p)
    go false p true q = sound (record { known = ltb-false _ _ p; zeroed = zeroes_zeroed e q })
    go false p false q = stray (ltb-false _ _ p) (fact_not (zeroed_zeroes e) q)

-- judging gives a number exactly when its row holds
pub judged_exactly : (e : Event) (n : ℕ) → fault_of e ≡ n ↔ Judged e n
judged_exactly e = exactly (Judged e) (judged_is e) (λ n j. judged_only j)

unknown_of : {e : Event} → Judged e 7 → 2 < e.kind
unknown_of (unknown p) = p

stray_of : {e : Event} → Judged e 8 → (e.kind ≤ 2) × (Zeroed e → ⊥)
stray_of (stray p z) = (p, z)

ruled_of : {e : Event} → Judged e 0 → Ruled e
ruled_of (sound r) = r

-- 7 exactly when the kind is above 2
pub judge_7 : (e : Event) → fault_of e ≡ 7 ↔ 2 < e.kind
judge_7 e = (λ q. unknown_of ((judged_exactly e 7).0 q), λ p. (judged_exactly e 7).1 (unknown p))

-- 8 exactly when the kind is known and a field that has to be 0 is not
pub judge_8 : (e : Event) → fault_of e ≡ 8 ↔ (e.kind ≤ 2) × (Zeroed e → ⊥)
judge_8 e = (λ q. stray_of ((judged_exactly e 8).0 q), λ p. (judged_exactly e 8).1 (stray p.0 p.1))

-- 0 exactly when the event obeys the rules
pub judge_0 : (e : Event) → fault_of e ≡ 0 ↔ Ruled e
judge_0 e = (λ q. ruled_of ((judged_exactly e 0).0 q), λ r. (judged_exactly e 0).1 (sound r))
