-- The rules' two tasks: bounds 2 and 7, and with D = 6 for task 1 its bound is refused (13). As one claim, by computation.
use Prim.Native.Nat.{ℕ}
use mathlib.Core.Path.{◌≡◌, refl}
use mathlib.Core.List.{List, [], ◌∷◌}
use lib.ListN.{replicate}
use Rattle.table_rules.specs.declared.Table.{Table}
use Rattle.table_rules.specs.Answers.{Answer}
use Rattle.table_rules.specs.Answers.{Accepted, Refused}
use Rattle.table_rules.specs.Rules.{no_task}
use Rattle.bound_one.specs.Bound.{Bound}
use Rattle.bound_one.specs.Asked.{one_answer}
use Rattle.bound_all.specs.Asked.{all_answer, all_cells}
use Rattle.bound_all.proofs.Computing.{bounds_compute}

-- tasks 0: (2,4,4,(1,2)) and 1: (3,d,8,(1,3))
abbrev pub paper : ℕ → Table
paper d =
    record {
      count = 2;
      tasks =
          record { c = 2; d = 4; t = 4; m = 1; k = 2 }
          ∷ record { c = 3; d = d; t = 8; m = 1; k = 3 }
          ∷ replicate 14 no_task;
    }

-- task by task, then all into three cells of 9: the answers, and what the cells hold
abbrev pub Figures : Type 0
Figures = List Bound × Answer × List ℕ

abbrev pub figures : ℕ → Figures
figures d =
    (one_answer (paper d) 0 ∷ one_answer (paper d) 1 ∷ one_answer (paper d) 2 ∷ [], all_answer (paper d) 3, all_cells (paper d) (9 ∷ 9 ∷ 9 ∷ []))

abbrev pub told : List Figures
told =
    (Bound.At 2 ∷ Bound.At 7 ∷ Bound.Refused 10 2 ∷ [], Accepted, 2 ∷ 7 ∷ 9 ∷ [])
    ∷ (Bound.At 2 ∷ Bound.Refused 13 1 ∷ Bound.Refused 10 2 ∷ [], Refused 13 1, 9 ∷ 9 ∷ 9 ∷ [])
    ∷ []

pub worked : figures 7 ∷ figures 6 ∷ [] ≡ told
unfolding bounds_compute
worked = refl
