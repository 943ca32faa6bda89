-- A cell that holds a record, of a local or of an open borrow, can be lent by `&mut` and is a cell again afterwards: cell and lent place say the same of
-- memory.
use mathlib.Core.List.{List, [], ◌∷◌}
use Prim.Native.Nat.{ℕ}
use seplogic.Ra.Ura.{Ura}
use base.Fraction.{full_share}
use mir.Val.{Val}
use base.Logic.{ent, sep, ex, id⊢}
use base.Fml.{fsep, fat}
use types.Logic.{Logic, sem}
use types.Kit.{‵, ◌$◌, ◌∵◌, !, qed, by, move, use1, fjoin, fpack, done}
use denote.Laws.{Is}
use denote.Memory.{mem, cell_at, part_of}
use denote.Steps.{owned}
use denote.Struct.Laws as LL
use Rattle.task_records.specs.declared.Record.{Record}
use Rattle.task_records.specs.contracts.Record as R
use Rattle.task_records.proofs.Record.TheLaws as R'

module _ {M : Type 1} {𝓤 : Ura M} (𝓛 : Logic 𝓤) (h : Record) (b o : ℕ) where
  open 𝓛 use {H}

  pub cell_lies : (vs : List Val) → Is R.the_row h vs → ent 𝓤 (sem 𝓛 (cell_at full_share (R.the_row).mir vs b o)) (sem 𝓛 ((mem R.the_row).own_at h b o))
  unfolding part_of
  cell_lies vs is =
      qed 𝓛 (‵ (cell_at full_share (R.the_row).mir vs b o) ∷ []) ∵ owned ! R.the_row (Is R.the_row) (LL.makes R.the_type R'.the_plain 𝓛) h vs is $
      move ! (1 ∷ 0 ∷ []) $ fjoin ! $
      fpack ! (List Val) (λ us. fsep (cell_at full_share (R.the_row).mir us b o) ((R.the_row).own_val h us)) vs $ done !

  pub local_lies : (v : Val) → Is R.the_row h (v ∷ []) → ent 𝓤 (H.at full_share R'.mir b o v) (sem 𝓛 ((mem R.the_row).own_at h b o))
  local_lies v is =
      qed 𝓛 (‵ (fat full_share R'.mir b o v) ∷ []) ∵ use1 𝓛 (‵ (cell_at full_share (R.the_row).mir (v ∷ []) b o)) (𝓛.laws.at_raw full_share R'.mir b o v) $
      by ! (cell_lies (v ∷ []) is)

  pub lies_apart : ent 𝓤 (sem 𝓛 ((mem R.the_row).own_at h b o))
      (ex 𝓤 (λ (vs : List Val). sep 𝓤 (sem 𝓛 (cell_at full_share (R.the_row).mir vs b o)) (sem 𝓛 ((R.the_row).own_val h vs))))
  unfolding part_of
  lies_apart = id⊢ 𝓤 _
