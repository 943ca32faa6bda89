-- The premise in the order of the log and the one over events newest first say the same: event n of the log is the one in front of the first n.
use Prim.Native.Nat.{ℕ, zero, suc, ◌≤◌, ◌<◌}
use mathlib.Core.Path.{◌≡◌, sym, ◌∙◌}
use mathlib.Core.Bool.{true}
use mathlib.Core.List.{List, []}
use mathlib.Core.Logic.{◌↔◌}
use native.Mathlib.Decide.{ℕ_discrete}
use native.Mathlib.Nat.{le_refl, not-suc-le-zero}
use native.Mathlib.Omega.{arith}
use lib.ListN.{length}
use Rattle.event_reading.specs.declared.Event.{Event}
use Rattle.state_rules.specs.declared.State.{State}
use Rattle.run_histories.specs.History.{is_accepted}
use Rattle.run_histories.proofs.InOrder.{onto}
use Rattle.guarantee.specs.Premise.{Timely, Premise}
use Rattle.guarantee_of_logs.specs.Places.{event_at, accepted_at}
use Rattle.guarantee_of_logs.specs.Premise.{TimelyAt, LogObeys}
use Rattle.guarantee_of_logs.proofs.Places.{newest, newest_more, newest_all, after_is, open_is}

module _ (s : State) (es : List Event) where
  accepted_is : (n : ℕ) → accepted_at s es n ≡ is_accepted s (newest es n) (event_at es n)
  accepted_is n = rw (after_is s es n)

  -- what event n owes
  timely_of : (n : ℕ) → n ≤ length es → TimelyAt s es n → Timely s (newest es n) (event_at es n)
  timely_of n h w i x p l c = w i x p (rw (after_is s es n) l) (rw (open_is s es n h i x, after_is s es n) c)

  timely_at : (n : ℕ) → n ≤ length es → Timely s (newest es n) (event_at es n) → TimelyAt s es n
  timely_at n h w i x p l c = w i x p (rw (after_is s es n) at l) (rw (open_is s es n h i x, after_is s es n) at c)

  -- the events before place n obey the premise
  abbrev pub ObeysTo : ℕ → Type 0
  ObeysTo m = (n : ℕ) → n < m → accepted_at s es n ≡ true → TimelyAt s es n

  pub premise_to : (m : ℕ) → m ≤ length es → ObeysTo m → Premise s (newest es m)
  unfolding Premise
  premise_to zero h o = tt
  premise_to (suc m) h o =
      rw (newest_more es m h)
      (premise_to m (omega arith) (λ n q. o n (omega arith)), λ a. timely_of m (omega arith) (o m (le_refl (suc m)) (accepted_is m ∙ a)))

  obeys_to : (m : ℕ) → m ≤ length es → Premise s (newest es m) → ObeysTo m
  unfolding Premise
  obeys_to zero h p n q a = absurd (not-suc-le-zero q)
  obeys_to (suc m) h p n q a =
      let w = rw (newest_more es m h) at p in
      go (ℕ_discrete n m) (λ l. obeys_to m (omega arith) w.0 n l a) w.1
    where
      go : Dec (n ≡ m) → (n < m → TimelyAt s es n)
          → (is_accepted s (newest es m) (event_at es m) ≡ true → Timely s (newest es m) (event_at es m)) → TimelyAt s es n
      go (yes z) before here = timely_at n (omega arith) (rw z (here (rw z at (sym (accepted_is n) ∙ a))))
      go (no z) before here = before (omega arith)

  pub premise_either_way : LogObeys s es ↔ Premise s (onto es [])
  premise_either_way = (
    λ o. rw (newest_all es) at (premise_to (length es) (le_refl (length es)) o),
    λ p. obeys_to (length es) (le_refl (length es)) (rw (newest_all es) p),
  )
