-- A call of a covered function on plain data is one step of a walk: nothing is owned before it and nothing after it, since plain data owns only facts.
use mathlib.Core.List.{List, [], ◌∷◌}
use seplogic.Ra.Ura.{Ura}
use mir.Syntax.{Callee, Place, Opd as Operand, Body, seq, call}
use mir.Val.{Val}
use base.Logic.{SProp, ent, emp, ex, sep}
use base.Fml.{ftrue}
use prog.Wp.{Env, Calls, Loops}
use types.Logic.{Logic, sem}
use contract.Monad.{fact}
use sound.WpLaws.{FmC}
use types.Kit.{Item, ‵, raw, ◌⊛◌, some, later, Post, runs, lands, settles, Seq, ◌$◌, ◌∵◌, !, qed, move, drop, use0, use1, split, pick, frame, await}
use types.Kit.{updating, now as at_once, show, done}
use types.Run.{Opds}
use denote.RattleType.{RattleType}
use denote.Laws.{Is, shows}
use denote.Steps.{peeks, heard}
use denote.Triple.Statement.{Contract, Triple}
use denote.Triple.Call.{calls_at, calls_at_last}

-- what a callee's `post` comes to: some result r with φ r, and what its type owns of r at the machine value returned
abbrev pub Gives : {M : Type 1} {𝓤 : Ura M} (𝓛 : Logic 𝓤) (c : Contract 𝓤) → c.Ghost → (R : RattleType) → (R.Denot → Type 0) → Type 1
Gives {𝓤 = 𝓤} 𝓛 c x R φ = (v : Val) → ent 𝓤 (c.post x v) (𝓛.H.⇛ (ex 𝓤 (λ (r : R.Denot). sep 𝓤 (sem 𝓛 (R.own_val r (v ∷ []))) (fact 𝓤 (φ r)))))

-- a `post` with no lifetime and no `&mut`, once what it says of last values is let go
module _ {M : Type 1} {𝓤 : Ura M} (𝓛 : Logic 𝓤) where
  open 𝓛 use {H}

  pub taken : (D : RattleType) (φ : D.Denot → Type 0) (said : D.Denot → SProp 𝓤) (v : Val) → ((r : D.Denot) → ent 𝓤 (said r) (fact 𝓤 (φ r)))
      → ent 𝓤 (H.⇛ (ex 𝓤 (λ (r : D.Denot). sep 𝓤 (sep 𝓤 (emp 𝓤) (sem 𝓛 (D.own_val r (v ∷ [])))) (said r))))
      (H.⇛ (ex 𝓤 (λ (r : D.Denot). sep 𝓤 (sem 𝓛 (D.own_val r (v ∷ []))) (fact 𝓤 (φ r)))))
  taken D φ said v h =
      qed 𝓛 (later (some (λ (r : D.Denot). (‵ ftrue ⊛ ‵ (D.own_val r (v ∷ []))) ⊛ raw (said r))) ∷ []) ∵ updating ! $ await ! tt $ pick ! (λ r. at_once ! $
      show ! (λ (r' : D.Denot). sep 𝓤 (sem 𝓛 (D.own_val r' (v ∷ []))) (fact 𝓤 (φ r'))) r $ split ! $ split ! $ drop ! $ frame ! $
      use1 𝓛 (raw (fact 𝓤 (φ r))) (h r) $ done !)

module _ {M : Type 1} {𝓤 : Ura M} {𝓛 : Logic 𝓤} {K : Type 0} {Γ : List (Item 𝓤)} {E : Env 𝓤 𝓛.H} {C : Calls 𝓤 𝓛.H} {f : Callee}
    {xs : List Operand} {Λ : Loops 𝓤 𝓛.H} {q : Post 𝓤 𝓛.H} {d : Place} where
  -- what is left is to land the machine value v of a result r, with φ r and the type's relation in hand
  open 𝓛 use {H}

  pub calls_plain : {rest : Body} → K → FmC 𝓤 H 𝓛.laws C → (c : Contract 𝓤) → Triple 𝓤 (C f) c → (x : c.Ghost) → ent 𝓤 (emp 𝓤) (c.pre x)
      → (R : RattleType) (φ : R.Denot → Type 0) → Gives 𝓛 c x R φ
      → Opds K 𝓛 (raw (c.pre x) ∷ Γ) E xs (c.args x) → ((v : Val) (r : R.Denot) → φ r → Is R r (v ∷ []) → Seq K 𝓛 Γ (lands C Λ E d v rest q))
      → Seq K 𝓛 Γ (runs C Λ E (seq (call f xs d) rest) q)
  calls_plain t fm c met x goes R φ gives os k =
      use0 𝓛 (raw (c.pre x)) goes $ calls_at t fm c met x os (λ v.
      use1 𝓛 (later (some (λ (r : R.Denot). ‵ (R.own_val r (v ∷ [])) ⊛ raw (fact 𝓤 (φ r))))) (gives v) $ await t tt $ pick t (λ r. split t $ move t (1 ∷ []) $
      heard t (φ r) (λ e. peeks t R (Is R) (shows 𝓛 R) r (v ∷ []) (λ is. drop t $ k v r e is))))

  -- the same with the operands first, where one of them is read off the code and says what is bound
  pub calls_read : {rest : Body} → K → FmC 𝓤 H 𝓛.laws C → (c : Contract 𝓤) → Triple 𝓤 (C f) c → (x : c.Ghost)
      → Opds K 𝓛 (raw (c.pre x) ∷ Γ) E xs (c.args x) → ent 𝓤 (emp 𝓤) (c.pre x) → (R : RattleType) (φ : R.Denot → Type 0)
      → Gives 𝓛 c x R φ → ((v : Val) (r : R.Denot) → φ r → Is R r (v ∷ []) → Seq K 𝓛 Γ (lands C Λ E d v rest q))
      → Seq K 𝓛 Γ (runs C Λ E (seq (call f xs d) rest) q)
  calls_read t fm c met x os goes R φ gives k = calls_plain t fm c met x goes R φ gives os k

  -- the same where the call ends a block
  pub calls_plain_last : K → FmC 𝓤 H 𝓛.laws C → (c : Contract 𝓤) → Triple 𝓤 (C f) c → (x : c.Ghost) → ent 𝓤 (emp 𝓤) (c.pre x)
      → (R : RattleType) (φ : R.Denot → Type 0) → Gives 𝓛 c x R φ
      → Opds K 𝓛 (raw (c.pre x) ∷ Γ) E xs (c.args x) → ((v : Val) (r : R.Denot) → φ r → Is R r (v ∷ []) → Seq K 𝓛 Γ (settles E d v q))
      → Seq K 𝓛 Γ (runs C Λ E (call f xs d) q)
  calls_plain_last t fm c met x goes R φ gives os k =
      use0 𝓛 (raw (c.pre x)) goes $ calls_at_last t fm c met x os (λ v.
      use1 𝓛 (later (some (λ (r : R.Denot). ‵ (R.own_val r (v ∷ [])) ⊛ raw (fact 𝓤 (φ r))))) (gives v) $ await t tt $ pick t (λ r. split t $ move t (1 ∷ []) $
      heard t (φ r) (λ e. peeks t R (Is R) (shows 𝓛 R) r (v ∷ []) (λ is. drop t $ k v r e is))))

  pub calls_read_last : K → FmC 𝓤 H 𝓛.laws C → (c : Contract 𝓤) → Triple 𝓤 (C f) c → (x : c.Ghost) → Opds K 𝓛 (raw (c.pre x) ∷ Γ) E xs (c.args x)
      → ent 𝓤 (emp 𝓤) (c.pre x) → (R : RattleType) (φ : R.Denot → Type 0)
      → Gives 𝓛 c x R φ → ((v : Val) (r : R.Denot) → φ r → Is R r (v ∷ []) → Seq K 𝓛 Γ (settles E d v q)) → Seq K 𝓛 Γ (runs C Λ E (call f xs d) q)
  calls_read_last t fm c met x os goes R φ gives k = calls_plain_last t fm c met x goes R φ gives os k
