-- The fresh state of an accepted table is sound and has no choice: each of its records is a fresh one.
use Prim.Native.Nat.{ℕ, min, ◌<◌}
use mathlib.Core.Path.{◌≡◌, refl, sym, ap, ◌∙◌}
use mathlib.Core.Bool.{false}
use native.Mathlib.Omega.{arith}
use lib.ListN.{get_or, replicate}
use Rattle.laws.proofs.Stores.{filled_below}
use Rattle.laws.proofs.Tests.{true_not_false}
use Rattle.table_rules.specs.Answers.{Accepted}
use Rattle.table_rules.specs.declared.Table.{Table}
use Rattle.table_rules.specs.Rules.{no_task}
use Rattle.table_rules.specs.Judging.{judged}
use Rattle.table_rules.proofs.Exactly.{judged_accepted}
use Rattle.task_records.specs.declared.Record.{Record}
use Rattle.task_steps.specs.Opening.{fresh, no_record}
use Rattle.task_soundness.proofs.Kept.{fresh_sound}
use Rattle.state_choice.specs.Best.{Best}
use Rattle.state_rules.specs.State.{record_at, fresh_state}
use Rattle.state_rules.specs.Sound.{StateSound}
use Rattle.state_rules.specs.Choice.{chosen}
use Rattle.state_choice.proofs.Least.{Found, some, nothing, best_is}

module _ (t : Table) (good : judged t ≡ Accepted) where
  pub fresh_at : (i : ℕ) → i < t.count → record_at (fresh_state t) i ≡ fresh (get_or t.tasks i no_task)
  fresh_at i h =
      filled_below (λ (j : ℕ). fresh (get_or t.tasks j no_task)) (replicate 16 no_record) no_record t.count i
      (omega (arith, ((judged_accepted t).0 good).0.most)) h

  pub start_sound : StateSound (fresh_state t)
  start_sound =
      let j = (judged_accepted t).0 good in
      record {
        counted = j.0;
        clock = omega arith;
        each = λ i h. rw (fresh_at i h) (fresh_sound (get_or t.tasks i no_task) (j.1 i h));
      }

  -- nothing is open, so nothing is chosen
  pub start_idle : (chosen (fresh_state t)).found ≡ false
  start_idle = go (chosen (fresh_state t)) (best_is (fresh_state t).records (min t.count 16))
    where
      go : (b : Best) → Found (fresh_state t).records (min t.count 16) b → b.found ≡ false
      go b (some {p} f) =
          absurd (true_not_false (sym f.live ∙ ap (λ (r : Record). r.live) (fresh_at p (omega (arith, f.below)))))
      go b (nothing f) = refl
