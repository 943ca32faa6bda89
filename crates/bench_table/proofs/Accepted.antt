-- The bench's tables of 1 to 16 tasks keep the rules of tables, by computing: so a run begins from the fresh state of its tasks.
use mathlib.Core.Path.{◌≡◌, refl}
use mathlib.Core.List.{[], ◌∷◌, map}
use lib.ListN.{replicate}
use Rattle.laws.specs.Stores.{filled}
use Rattle.table_rules.specs.Answers.{Accepted}
use Rattle.table_rules.specs.Rules.{task_fault}
use Rattle.table_rules.specs.Judging.{first_fault, judged}
use Rattle.bench_table.specs.Table.{table_of}

pub all_accepted : map (λ n. judged (table_of n)) (1 ∷ 2 ∷ 3 ∷ 4 ∷ 5 ∷ 6 ∷ 7 ∷ 8 ∷ 9 ∷ 10 ∷ 11 ∷ 12 ∷ 13 ∷ 14 ∷ 15 ∷ 16 ∷ []) ≡ replicate 16 Accepted
unfolding filled task_fault first_fault judged
all_accepted = refl
