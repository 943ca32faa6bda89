-- Which local or constant a call is handed is read off the code, and the facts that follow have to bear it out: so a wrong one is refused at a fact, and not
-- because the walk no longer fits.
use mathlib.Core.Path.{◌≡◌}
use Prim.Native.Nat.{ℕ, ◌^◌}
use mathlib.Core.Bool.{Bool, true, false}
use mathlib.Core.List.{List, [], ◌∷◌}
use lib.Dec.{T, ltb}
use lib.ListN.{get_or}
use seplogic.Ra.Ura.{Ura}
use base.Fraction.{full_share}
use mir.Syntax.{Opd as Operand, copy, int, int_neg, int_big, float, opd_true, opd_false, opd_unit, ptr_const, size_of, align_of, num_of, fn_addr, vtable, place}
use mir.Syntax.{w8, w16, w32, w64, w128}
use mir.Val.{bits, Val, vbool, vint}
use base.Fml.{ftrue, fat}
use prog.Wp.{Env, spot_of}
use types.Logic.{Logic}
use types.Kit.{Item, ‵, nth}
use types.Run.{Opd, load, from, stop, look, lit, true_lit, false_lit}

-- its value, where the list has what each local holds
abbrev pub bool_of : List Bool → Operand → Bool
bool_of bs (copy (place k ss)) = get_or bs k false
bool_of bs opd_true = true
bool_of bs opd_false = false
bool_of bs (int w n) = false
bool_of bs (int_neg w n) = false
bool_of bs (int_big w n) = false
bool_of bs (float f n) = false
bool_of bs opd_unit = false
bool_of bs (ptr_const n) = false
bool_of bs (size_of ty) = false
bool_of bs (align_of ty) = false
bool_of bs (num_of ty n) = false
bool_of bs (fn_addr f ty) = false
bool_of bs (vtable ty f) = false

abbrev pub number_of : List ℕ → Operand → ℕ
number_of ns (copy (place k ss)) = get_or ns k 0
number_of ns (int w n) = n
number_of ns opd_true = 0
number_of ns opd_false = 0
number_of ns (int_neg w n) = 0
number_of ns (int_big w n) = 0
number_of ns (float f n) = 0
number_of ns opd_unit = 0
number_of ns (ptr_const n) = 0
number_of ns (size_of ty) = 0
number_of ns (align_of ty) = 0
number_of ns (num_of ty n) = 0
number_of ns (fn_addr f ty) = 0
number_of ns (vtable ty f) = 0

-- `tt` shows that it is a whole local or a constant of that type
abbrev pub Bools : Operand → Type 0
Bools (copy (place k [])) = Unit {0}
Bools (copy (place k (s ∷ ss))) = ⊥
Bools opd_true = Unit {0}
Bools opd_false = Unit {0}
Bools (int w n) = ⊥
Bools (int_neg w n) = ⊥
Bools (int_big w n) = ⊥
Bools (float f n) = ⊥
Bools opd_unit = ⊥
Bools (ptr_const n) = ⊥
Bools (size_of ty) = ⊥
Bools (align_of ty) = ⊥
Bools (num_of ty n) = ⊥
Bools (fn_addr f ty) = ⊥
Bools (vtable ty f) = ⊥

abbrev pub Numbers : Operand → Type 0
Numbers (copy (place k [])) = Unit {0}
Numbers (copy (place k (s ∷ ss))) = ⊥
Numbers (int w8 n) = ⊥
Numbers (int w16 n) = ⊥
Numbers (int w32 n) = ⊥
Numbers (int w128 n) = ⊥
Numbers (int w64 n) = T (ltb n (2 ^ bits w64))
Numbers opd_true = ⊥
Numbers opd_false = ⊥
Numbers (int_neg w n) = ⊥
Numbers (int_big w n) = ⊥
Numbers (float f n) = ⊥
Numbers opd_unit = ⊥
Numbers (ptr_const n) = ⊥
Numbers (size_of ty) = ⊥
Numbers (align_of ty) = ⊥
Numbers (num_of ty n) = ⊥
Numbers (fn_addr f ty) = ⊥
Numbers (vtable ty f) = ⊥

module _ {M : Type 1} {𝓤 : Ura M} (𝓛 : Logic 𝓤) (Γ : List (Item 𝓤)) (E : Env 𝓤 𝓛.H) (at : ℕ → ℕ) (v : Val) where
  -- and `refl` that where it is local k, entry (at k) of the context is that local, with the value v
  open 𝓛 use {H}

  abbrev Aside : Type 2
  Aside = ◌≡◌ {A = Item 𝓤} (‵ ftrue) (‵ ftrue)

  abbrev pub Stands : Operand → Type 2
  Stands (copy (place k ss)) = nth 𝓛 (at k) Γ ≡ ‵ (fat full_share (spot_of 𝓤 H E k).0 (spot_of 𝓤 H E k).1 (spot_of 𝓤 H E k).2 v)
  Stands (int w n) = Aside
  Stands opd_true = Aside
  Stands opd_false = Aside
  Stands (int_neg w n) = Aside
  Stands (int_big w n) = Aside
  Stands (float f n) = Aside
  Stands opd_unit = Aside
  Stands (ptr_const n) = Aside
  Stands (size_of ty) = Aside
  Stands (align_of ty) = Aside
  Stands (num_of ty n) = Aside
  Stands (fn_addr f ty) = Aside
  Stands (vtable ty f) = Aside

module _ {M : Type 1} {𝓤 : Ura M} {𝓛 : Logic 𝓤} {K : Type 0} {Γ : List (Item 𝓤)} {E : Env 𝓤 𝓛.H} where
  a_bool : K → (at : ℕ → ℕ) (bs : List Bool) (x : Operand) → Bools x → Stands 𝓛 Γ E at (vbool (bool_of bs x)) x → Opd K 𝓛 Γ E x (vbool (bool_of bs x))
  a_bool t at bs (copy (place k [])) r e = load t (from t (stop t)) (look t (at k) e)
  a_bool t at bs (copy (place k (s ∷ ss))) r e = absurd r
  a_bool t at bs opd_true r e = true_lit t
  a_bool t at bs opd_false r e = false_lit t
  a_bool t at bs (int w n) r e = absurd r
  a_bool t at bs (int_neg w n) r e = absurd r
  a_bool t at bs (int_big w n) r e = absurd r
  a_bool t at bs (float f n) r e = absurd r
  a_bool t at bs opd_unit r e = absurd r
  a_bool t at bs (ptr_const n) r e = absurd r
  a_bool t at bs (size_of ty) r e = absurd r
  a_bool t at bs (align_of ty) r e = absurd r
  a_bool t at bs (num_of ty n) r e = absurd r
  a_bool t at bs (fn_addr f ty) r e = absurd r
  a_bool t at bs (vtable ty f) r e = absurd r

  a_number : K → (at : ℕ → ℕ) (ns : List ℕ) (x : Operand) → Numbers x → Stands 𝓛 Γ E at (vint w64 (number_of ns x)) x
      → Opd K 𝓛 Γ E x (vint w64 (number_of ns x))
  a_number t at ns (copy (place k [])) r e = load t (from t (stop t)) (look t (at k) e)
  a_number t at ns (copy (place k (s ∷ ss))) r e = absurd r
  a_number t at ns (int w8 n) r e = absurd r
  a_number t at ns (int w16 n) r e = absurd r
  a_number t at ns (int w32 n) r e = absurd r
  a_number t at ns (int w128 n) r e = absurd r
  a_number t at ns (int w64 n) r e = lit t r
  a_number t at ns opd_true r e = absurd r
  a_number t at ns opd_false r e = absurd r
  a_number t at ns (int_neg w n) r e = absurd r
  a_number t at ns (int_big w n) r e = absurd r
  a_number t at ns (float f n) r e = absurd r
  a_number t at ns opd_unit r e = absurd r
  a_number t at ns (ptr_const n) r e = absurd r
  a_number t at ns (size_of ty) r e = absurd r
  a_number t at ns (align_of ty) r e = absurd r
  a_number t at ns (num_of ty n) r e = absurd r
  a_number t at ns (fn_addr f ty) r e = absurd r
  a_number t at ns (vtable ty f) r e = absurd r

  pub reads_bool : K → (at : ℕ → ℕ) (bs : List Bool) {x : Operand} → Bools x → Stands 𝓛 Γ E at (vbool (bool_of bs x)) x → Opd K 𝓛 Γ E x (vbool (bool_of bs x))
  reads_bool t at bs {x} r e = a_bool t at bs x r e

  pub reads_number : K → (at : ℕ → ℕ) (ns : List ℕ) {x : Operand} → Numbers x → Stands 𝓛 Γ E at (vint w64 (number_of ns x)) x
      → Opd K 𝓛 Γ E x (vint w64 (number_of ns x))
  reads_number t at ns {x} r e = a_number t at ns x r e
