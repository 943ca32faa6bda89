-- The demand never falls as the stretch grows, and is never below the task's own cost: part by part.
use Prim.Native.Nat.{ℕ, ◌≤◌, ◌<◌}
use mathlib.Core.Path.{◌≡◌}
use mathlib.Core.Bool.{Bool, true, false, cond}
use native.Mathlib.Nat.{le_refl, add-le-add, mul-le-mul_right}
use native.Mathlib.Omega.{arith}
use lib.ListN.{get_or}
use Rattle.laws.proofs.Numbers.{ceiling_mono}
use Rattle.laws.proofs.Sums.{total_mono}
use Rattle.table_rules.specs.declared.Table.{Table}
use Rattle.table_rules.specs.Answers.{Accepted}
use Rattle.table_rules.specs.Judging.{judged}
use Rattle.bound_demand.specs.declared.Load.{Load}
use Rattle.bound_demand.specs.Above.{task_at, is_above}
use Rattle.bound_demand.specs.Demand.{cost_of, spacing_of, part_of, part_at, demand}
use Rattle.bound_demand.specs.Load.{none_asked, part_in, load_demand, Ready}
use Rattle.bound_demand.proofs.Obeyed.{spacing_some}

part_mono : (c s a b : ℕ) → 1 ≤ s → a ≤ b → part_of c s a ≤ part_of c s b
part_mono c s a b h p = mul-le-mul_right c (ceiling_mono a b s h p)

pub load_mono : (l : Load) → Ready l → (a b : ℕ) → a ≤ b → load_demand l a ≤ load_demand l b
unfolding load_demand
load_mono l y a b p =
    add-le-add (le_refl l.own)
    (total_mono (part_in l.above a) (part_in l.above b) l.count
    (λ i h. part_mono (get_or l.above i none_asked).cost (get_or l.above i none_asked).spacing a b (y.spaced i h) p))

pub load_own : (l : Load) (r : ℕ) → l.own ≤ load_demand l r
unfolding load_demand
load_own l r = omega arith

module _ (t : Table) (good : judged t ≡ Accepted) (k : ℕ) where
  pub demand_mono : (a b : ℕ) → a ≤ b → demand t k a ≤ demand t k b
  unfolding demand
  demand_mono a b p =
      add-le-add (le_refl (cost_of (task_at t k))) (total_mono (part_at t k a) (part_at t k b) t.count (λ i h. go i h (is_above t i k)))
    where
      go : (i : ℕ) → i < t.count → (above : Bool)
          → cond above (part_of (cost_of (task_at t i)) (spacing_of (task_at t i)) a) 0
          ≤ cond above (part_of (cost_of (task_at t i)) (spacing_of (task_at t i)) b) 0
      go i h true = part_mono (cost_of (task_at t i)) (spacing_of (task_at t i)) a b (spacing_some t good i h) p
      go i h false = le_refl 0

  pub demand_own : (r : ℕ) → cost_of (task_at t k) ≤ demand t k r
  unfolding demand
  demand_own r = omega arith
