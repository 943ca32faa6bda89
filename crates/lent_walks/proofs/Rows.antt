-- A row of elements in memory is lent as a slice for the lifetime ν of a call and comes back once ν is over: an open `&mut [T]` has such a row, and a local
-- array is one.
use mathlib.Core.Path.{◌≡◌, refl}
use Prim.Native.Nat.{ℕ, zero, suc, ◌+◌}
use native.Mathlib.Omega.{arith}
use mathlib.Core.List.{List, [], ◌∷◌, ◌++◌}
use lib.ListN.{length, take, drop}
use seplogic.Ra.Ura.{Ura}
use base.Fraction.{full_share}
use mir.Syntax.{Lifetime, Ty, ty_array}
use mir.Val.{Val}
use base.Logic.{ent, sep, ex, snd∗}
use base.Fml.{Lft, GName, Fml, ftrue, fsep, fat, fdead, flent, feq, fhide}
use types.Logic.{Logic, sem}
use types.Kit.{‵, ◌$◌, ◌∵◌, !, qed, by, ◌⊛◌, move, keep, drop as discard, split, use1, use2, use3, later, rewrite, fsplit, fjoin, feq_i, feq_l, fpick}
use types.Kit.{fpack, await, updating, now as at_once, show, done}
use types.SemTy.{cells, Arr}
use types.Share.{arr_parts}
use types.Tokens.{lent_back}
use denote.RattleType.{RattleType}
use denote.Laws.{Is, Makes}
use denote.Memory.{mem, shares, lone, cell_at, part_at, part_of}
use denote.Array.{Array, array_val, Array-Makes}
use denote.ArrayMemory.{Single, Array-apart, Array-whole}
use denote.Steps.{owned, nothing}
use denote.Slice.{Room, finally, slice_val, shr_slice_at, elements_shared}
use denote.Shadow.{pure_i}
use denote.Lends.{Lent-map}
use denote.Copied.{Copied, each_lends}
use denote.Lend.{Held, Lent, LentShrs, lends_slice, slice_back}
use denote.Index.{row, whole_out, whole_in}

module _ {M : Type 1} {𝓤 : Ura M} (𝓛 : Logic 𝓤) (R : RattleType) (ℓ : Lifetime) (ν : Lft) (ys : List R.Denot) (b o : ℕ) where
  -- by `&`, of a type that can be copied: given room, the lender's part
  open 𝓛 use {H, A}

  pub shares_row : Copied 𝓛 R → Room R (length ys) → ent 𝓤 (sem 𝓛 (row R full_share ys b o)) (H.⇛ (LentShrs 𝓛 R ℓ ν full_share ys b o))
  shares_row copied room =
      qed 𝓛 (‵ (row R full_share ys b o) ∷ []) ∵ updating ! $ feq_i ! ℕ (length ys) (length ys) refl $ fjoin ! $
      use1 𝓛 (later (‵ (fhide (elements_shared R ys b o ν)) ⊛ ‵ (flent ν ((arr_parts (shares R) (length ys)).part full_share ys b o))))
      (Lent-map 𝓛 ((arr_parts (shares R) (length ys)).part full_share ys b o) (row R full_share ys b o) (elements_shared R ys b o)
      (snd∗ 𝓤 (sem 𝓛 (feq ℕ (length ys) (length ys))) (sem 𝓛 (row R full_share ys b o)))
      (qed 𝓛 (‵ (row R full_share ys b o) ∷ []) ∵ feq_i ! ℕ (length ys) (length ys) refl $ fjoin ! $ done !)
      (each_lends 𝓛 R copied full_share ys b o) ν) $ await ! tt $ split ! $
      pure_i ! (shr_slice_at R (record { ref_ptr = (b, o); now = ys }) (slice_val (b, o) (length ys) ∷ [])) (tt, (tt, tt)) (refl, room) $ fjoin ! $ at_once ! $
      done !

  pub shared_back : ent 𝓤 (sep 𝓤 (A.dead ν) (A.lent ν ((arr_parts (shares R) (length ys)).part full_share ys b o))) (H.⇛ (sem 𝓛 (row R full_share ys b o)))
  shared_back =
      qed 𝓛 (‵ (fdead ν) ∷ ‵ (flent ν ((arr_parts (shares R) (length ys)).part full_share ys b o)) ∷ []) ∵ updating ! $ lent_back ! tt $ fsplit ! $
      discard ! $ at_once ! $ done !

  -- by `&mut`: it comes back at its last list
  pub lends_row : Room R (length ys) → ent 𝓤 (sem 𝓛 (row R full_share ys b o)) (H.⇛ (ex 𝓤 (Lent 𝓛 R ℓ ν ys b o)))
  lends_row room =
      qed 𝓛 (‵ (row R full_share ys b o) ∷ []) ∵ use1 𝓛 (‵ (cells (mem R) ys b o)) (whole_in 𝓛 R ys b o) $ by ! (lends_slice 𝓛 R ℓ ν ys b o room)

  pub row_back : (δ : GName) (zs : List R.Denot) → ent 𝓤 (sep 𝓤 (A.dead ν) (sep 𝓤 (A.lent ν (Held R (length ys) b o δ)) (sem 𝓛 (finally R δ zs))))
      (H.⇛ (sem 𝓛 (row R full_share zs b o)))
  row_back δ zs =
      qed 𝓛 (‵ (fdead ν) ∷ ‵ (flent ν (Held R (length ys) b o δ)) ∷ ‵ (finally R δ zs) ∷ []) ∵ updating ! $
      use3 𝓛 (later (‵ ((Arr (mem R) (length ys)).own_at zs b o))) (slice_back 𝓛 R ν δ zs (length ys) b o) $ await ! tt $
      fsplit ! $ discard ! $ use1 𝓛 (‵ (row R full_share zs b o)) (whole_out 𝓛 R zs b o) $ at_once ! $ done !

module _ {M : Type 1} {𝓤 : Ura M} (𝓛 : Logic 𝓤) (R : RattleType) (n : ℕ) (ys : List R.Denot) (b o : ℕ) where
  -- the array's MIR type
  open 𝓛 use {H}

  abbrev arr_ty : Ty
  arr_ty = ty_array (lone R.mir) n

  -- an array in a local of its own is the row of its elements
  pub array_row : Single R.mir → Makes 𝓛 R (Is R) → (v : Val) → Is (Array R n) ys (v ∷ [])
      → ent 𝓤 (H.at full_share arr_ty b o v) (sem 𝓛 (row R full_share ys b o))
  unfolding part_of
  array_row one mk v is =
      qed 𝓛 (‵ (fat full_share arr_ty b o v) ∷ []) ∵ use1 𝓛 (‵ (cell_at full_share (Array R n).mir (v ∷ []) b o)) (𝓛.laws.at_raw full_share arr_ty b o v) $
      owned ! (Array R n) (Is (Array R n)) (Array-Makes 𝓛 R mk n) ys (v ∷ []) is $ move ! (1 ∷ 0 ∷ []) $ fjoin ! $
      fpack ! (List Val) (λ us. fsep (cell_at full_share (Array R n).mir us b o) ((Array R n).own_val ys us)) (v ∷ []) $
      use1 𝓛 (‵ ((arr_parts (shares R) n).part full_share ys b o)) (Array-apart 𝓛 R full_share one n ys b o) $ fsplit ! $ discard ! $ done !

  -- and back, at some machine value, which is enough for the local to be freed
  pub row_array : length ys ≡ n → ent 𝓤 (sem 𝓛 (row R full_share ys b o)) (ex 𝓤 (λ (v : Val). H.at full_share arr_ty b o v))
  unfolding part_of
  row_array len =
      qed 𝓛 (‵ (row R full_share ys b o) ∷ []) ∵ feq_i ! ℕ (length ys) n len $ fjoin ! $
      use1 𝓛 (‵ (part_at (Array R n) full_share ys b o)) (Array-whole 𝓛 R full_share n ys b o) $
      fpick ! (λ vs. fsplit ! $ move ! (1 ∷ []) $
      fpick ! (λ us. fsplit ! $ fsplit ! $ feq_l ! (λ e. rewrite ! 2 (λ (ws : List Val). ‵ (cell_at full_share (Array R n).mir ws b o)) e refl $
      keep ! (2 ∷ []) $ use1 𝓛 (‵ (fat full_share arr_ty b o (array_val us))) (𝓛.laws.raw_at full_share arr_ty b o (array_val us)) $
      show ! (λ (v : Val). H.at full_share arr_ty b o v) (array_val us) $ done !)))

  -- the same with what the array owns, as the cell may then be read
  pub row_whole : length ys ≡ n → ent 𝓤 (sem 𝓛 (row R full_share ys b o))
      (ex 𝓤 (λ (vs : List Val). sep 𝓤 (sem 𝓛 (cell_at full_share (Array R n).mir vs b o)) (sem 𝓛 ((Array R n).own_val ys vs))))
  unfolding part_of
  row_whole len = qed 𝓛 (‵ (row R full_share ys b o) ∷ []) ∵ feq_i ! ℕ (length ys) n len $ fjoin ! $ by ! (Array-whole 𝓛 R full_share n ys b o)

-- what lies behind the first k elements of a row
abbrev pub behind : (R : RattleType) → ℕ → List R.Denot → ℕ → ℕ → Fml
behind R zero ys b o = row R full_share ys b o
behind R (suc k) [] b o = ftrue
behind R (suc k) (y ∷ ys) b o = behind R k ys b (o + (mem R).size)

module _ {M : Type 1} {𝓤 : Ura M} (𝓛 : Logic 𝓤) (R : RattleType) (b : ℕ) where
  -- a row is cut behind its first k elements
  pub cut_row : (k : ℕ) (ys : List R.Denot) (o : ℕ)
      → ent 𝓤 (sem 𝓛 (row R full_share ys b o)) (sep 𝓤 (sem 𝓛 (row R full_share (take k ys) b o)) (sem 𝓛 (behind R k ys b o)))
  cut_row zero ys o = qed 𝓛 (‵ (row R full_share ys b o) ∷ []) ∵ nothing ! $ done !
  cut_row (suc k) [] o = qed 𝓛 (‵ ftrue ∷ []) ∵ nothing ! $ done !
  cut_row (suc k) (y ∷ ys) o =
      qed 𝓛 (‵ (row R full_share (y ∷ ys) b o) ∷ []) ∵ fsplit ! $ move ! (1 ∷ []) $
      use1 𝓛 (‵ (row R full_share (take k ys) b (o + (mem R).size)) ⊛ ‵ (behind R k ys b (o + (mem R).size))) (cut_row k ys (o + (mem R).size)) $ split ! $
      move ! (2 ∷ 0 ∷ []) $ fjoin ! $ done !

  -- and whole again, with as many elements in front
  pub join_row : (k : ℕ) (ys zs : List R.Denot) (o : ℕ) → length zs ≡ length (take k ys)
      → ent 𝓤 (sep 𝓤 (sem 𝓛 (row R full_share zs b o)) (sem 𝓛 (behind R k ys b o))) (sem 𝓛 (row R full_share (zs ++ drop k ys) b o))
  join_row zero ys [] o e = qed 𝓛 (‵ ftrue ∷ ‵ (row R full_share ys b o) ∷ []) ∵ discard ! $ done !
  join_row zero ys (z ∷ zs) o e = absurd (omega (arith, e))
  join_row (suc k) [] [] o e = qed 𝓛 (‵ ftrue ∷ ‵ ftrue ∷ []) ∵ discard ! $ done !
  join_row (suc k) [] (z ∷ zs) o e = absurd (omega (arith, e))
  join_row (suc k) (y ∷ ys) [] o e = absurd (omega (arith, e))
  join_row (suc k) (y ∷ ys) (z ∷ zs) o e =
      qed 𝓛 (‵ (row R full_share (z ∷ zs) b o) ∷ ‵ (behind R (suc k) (y ∷ ys) b o) ∷ []) ∵ fsplit ! $ move ! (1 ∷ 2 ∷ []) $
      use2 𝓛 (‵ (row R full_share (zs ++ drop k ys) b (o + (mem R).size))) (join_row k ys zs (o + (mem R).size) (omega (arith, e))) $
      move ! (1 ∷ 0 ∷ []) $ fjoin ! $ done !
