-- Demand 3: the table's analysis gives what the counting argument asks, so it holds after every run that obeys the premise, and each task's ledger keeps its
-- windows.
use Prim.Native.Nat.{ℕ, ◌<◌}
use mathlib.Core.Path.{◌≡◌}
use mathlib.Core.List.{List}
use native.Mathlib.Omega.{arith}
use Rattle.laws.proofs.Tests.{tells_true}
use Rattle.event_reading.specs.declared.Event.{Event}
use Rattle.table_rules.specs.declared.Table.{Table}
use Rattle.table_rules.specs.Answers.{Accepted}
use Rattle.table_rules.specs.Judging.{judged}
use Rattle.table_rules.proofs.Exactly.{judged_accepted}
use Rattle.table_rules.proofs.Ruling.{fault_none}
use Rattle.state_rules.specs.State.{fresh_state}
use Rattle.run_windows.proofs.Bound.{ledger_kept}
use Rattle.bound_demand.specs.Above.{task_at, is_above}
use Rattle.bound_search.specs.Bound.{IsBound}
use Rattle.bound_demand.specs.Demand.{spacing_of, demand}
use Rattle.bound_search.proofs.Meets.{bound_is}
use Rattle.bound_demand.proofs.Obeyed.{times}
use Rattle.bound_demand.proofs.Order.{above_tells, goes_on_lem}
use Rattle.bound_all.specs.Asked.{all_answer, bound_cell}
use Rattle.bound_all.proofs.Exactly.{all_accepted}
use Rattle.guarantee.specs.Guarantee.{Promise, Guarantee}
use Rattle.guarantee.specs.Premise.{Premise}
use Rattle.guarantee.proofs.Required.{plain, plain_gates}
use Rattle.guarantee.proofs.Levels.{Given, allowance, allow, fit}
use Rattle.run_histories.proofs.Jobs.{history}
use Rattle.guarantee.proofs.Runs.{steady}

module _ (t : Table) (room : ℕ) (ok : all_answer t room ≡ Accepted) where
  good : judged t ≡ Accepted
  good = ((all_accepted t room).0 ok).0

  -- the number that the analysis gives is the task's bound
  bounded : (k : ℕ) → k < t.count → IsBound t k (bound_cell t k)
  bounded k h =
      let b = ((all_accepted t room).0 ok).2 k h in
      let e : bound_cell t k ≡ b.0 = rw ((bound_is t k b.0).1 b.1) in
      rw e b.1

  abbrev space : ℕ → ℕ
  space i = spacing_of (task_at t i)

  given : Given t.count (task_at t) (is_above t) (bound_cell t) space (λ i. plain (task_at t i)) (allowance (bound_cell t) space)
  unfolding demand
  given =
      record {
        through = λ i j k a b. tells_true (above_tells t i k) (goes_on_lem t i j k ((above_tells t i j).holds a) ((above_tells t j k).holds b));
        gates = λ i h. plain_gates (task_at t i) (bound_cell t i);
        some = λ k h. (bounded k h).some;
        within = λ k h. (bounded k h).within;
        spaced = λ k h. (times t good k h).spaced;
        fits = λ k h. fit t.count (task_at t) (is_above t) (bound_cell t) space k h (bounded k h).fits;
        allows =
            λ k i h q.
            allow t.count (task_at t) (is_above t) (bound_cell t) space k h (bounded k h).some (omega (arith, (bounded k h).within, (times t good k h).spaced))
            (λ j y. omega (arith, (times t good j y).some, (times t good j y).within, (times t good j y).spaced)) i q;
      }

  pub promised : (es : List Event) → Premise (fresh_state t) es → (i : ℕ) → i < t.count → Promise t (fresh_state t) es i
  promised es p i h =
      let f = (steady t good (bound_cell t) space (λ j. plain (task_at t j)) (allowance (bound_cell t) space) given es p).fine i h in
      record {
        required = f.good;
        windows = ledger_kept ((fault_none (task_at t i)).0 (((judged_accepted t).0 good).1 i h)).1 (history t good es i h) f.ledger;
      }

pub guarantee : Guarantee
guarantee t room ok es p i h = promised t room ok es p i h
