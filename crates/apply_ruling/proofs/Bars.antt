-- What bars an event, as rows: 7 or 8, then 9, then 10. By the tests, in turn.
use Prim.Native.Nat.{ℕ, ◌≤◌, ◌<◌}
use mathlib.Core.Path.{◌≡◌, refl}
use mathlib.Core.Bool.{Bool, true, false, cond}
use mathlib.Core.Logic.{◌⊎◌, inl, inr}
use borrow.Author.Tests.{eq-eqb, ne_eqb, eqb-true, eqb-false, lt-ltb, le-ltb, ltb-true, ltb-false, le-leb, lt-leb, leb-true, leb-false}
use lib.Dec.{eqb, leb, ltb}
use Rattle.laws.proofs.Tests.{cond_same}
use Rattle.event_reading.specs.declared.Event.{Event}
use Rattle.event_reading.specs.Event.{fault_of}
use Rattle.state_rules.specs.Sound.{limit}
use Rattle.apply_ruling.specs.Ruling.{bar_of}

module _ (clock count : ℕ) (e : Event) where
  -- the event's own rules hold, and its time is within the limit and not before the clock
  pub record InTime : Type 0 where
    pub ruled : fault_of e ≡ 0
    pub limited : e.time ≤ limit
    pub onward : clock ≤ e.time

  pub data Bars : ℕ → Type 0 where
    unruled : (fault_of e ≡ 0 → ⊥) → Bars (fault_of e)
    untimely : fault_of e ≡ 0 → (limit < e.time) ⊎ (e.time < clock) → Bars 9
    no_task_lem : InTime → count ≤ e.task → Bars 10
    nothing : InTime → e.task < count → Bars 0

  -- every event has its row
  pub bar_is : Bars (bar_of clock count e)
  unfolding bar_of
  bar_is = go (eqb (fault_of e) 0) refl (ltb limit e.time) refl (ltb e.time clock) refl (leb count e.task) refl
    where
      go : (a : Bool) → eqb (fault_of e) 0 ≡ a → (b : Bool) → ltb limit e.time ≡ b → (c : Bool) → ltb e.time clock ≡ c
          → (d : Bool) → leb count e.task ≡ d → Bars (cond a (cond b 9 (cond c 9 (cond d 10 0))) (fault_of e))
      go false p b q c f d g = unruled (eqb-false (fault_of e) 0 p)
      go true p true q c f d g = untimely (eqb-true _ _ p) (inl (ltb-true _ _ q))
      go true p false q true f d g = untimely (eqb-true _ _ p) (inr (ltb-true _ _ f))
      go true p false q false f true g =
          no_task_lem (record { ruled = eqb-true _ _ p; limited = ltb-false _ _ q; onward = ltb-false _ _ f }) (leb-true _ _ g)
      go true p false q false f false g =
          nothing (record { ruled = eqb-true _ _ p; limited = ltb-false _ _ q; onward = ltb-false _ _ f }) (leb-false _ _ g)

  -- and a row's number is the computed one
  pub bar_only : {n : ℕ} → Bars n → bar_of clock count e ≡ n
  unfolding bar_of
  bar_only (unruled q) = rw (ne_eqb (fault_of e) 0 q)
  bar_only (untimely z (inl q)) = rw (eq-eqb _ _ z, lt-ltb limit e.time q)
  bar_only (untimely z (inr q)) = rw (eq-eqb _ _ z, lt-ltb e.time clock q) (cond_same (ltb limit e.time) 9)
  bar_only (no_task_lem i c) = rw (eq-eqb _ _ i.ruled, le-ltb limit e.time i.limited, le-ltb e.time clock i.onward, le-leb _ _ c)
  bar_only (nothing i c) = rw (eq-eqb _ _ i.ruled, le-ltb limit e.time i.limited, le-ltb e.time clock i.onward, lt-leb _ _ c)
