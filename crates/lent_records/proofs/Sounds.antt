-- The library's `all` over a lent row asks what the rules ask of each record, one position after the other: by induction on the positions.
use Rattle.std.proofs.Common.{◌≡◌, refl, sym, ap, ◌∙◌, ℕ, zero, suc, ◌≤◌, Bool, true, false, ◌&&◌, cond, List, length, take, get_or, leb, add-one, arith}
use Rattle.std.specs.List.{list_all}
use Rattle.std.proofs.lemmas.List.{take_all}
use Rattle.std.proofs.lemmas.List.Folds.{list_all_more}
use Rattle.task_records.specs.declared.Record.{Record}
use Rattle.task_soundness.specs.Sound.{sound_holds}
use Rattle.task_steps.specs.Opening.{no_record}
use Rattle.table_rules.specs.Rules.{count_holds}
use Rattle.state_rules.specs.Sound.{limit, each_holds, state_holds}
use Rattle.lent_records.specs.Row.{state_of, admitted}

both : (a b : Bool) → cond a b false ≡ (a && b)
both true b = refl
both false b = refl

module _ (l : List Record) (c : ℕ) where
  abbrev pub test : Record → Bool
  test x = sound_holds x c

  -- the first i records
  front_sound : (i : ℕ) → i ≤ length l → each_holds l c i ≡ list_all test (take i l)
  unfolding each_holds
  front_sound zero h = refl
  front_sound (suc i) h =
      let x : Bool = test (get_or l i no_record) in
      ap (λ (b : Bool). cond b x false) (front_sound i (omega arith)) ∙ both (list_all test (take i l)) x
      ∙ sym (list_all_more test l i no_record (omega arith)) ∙ ap (λ (k : ℕ). list_all test (take k l)) (add-one i)

  row_sound : each_holds l c (length l) ≡ list_all test l
  row_sound = front_sound (length l) (omega arith) ∙ ap (list_all test) (take_all (length l) l (omega arith))

  pub state_is : state_holds (state_of l c) ≡ cond (admitted (length l) c) (list_all test l) false
  unfolding state_holds
  state_is = rw row_sound (go (count_holds (length l)))
    where
      go : (b : Bool) → cond b (cond (leb c limit) (list_all test l) false) false ≡ cond (cond b (leb c limit) false) (list_all test l) false
      go true = refl
      go false = refl
