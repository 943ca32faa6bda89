-- A call that is lent something in memory is one step of a walk: the walk makes a lifetime, lends for it, ends it after the call, and has back what was lent
-- at its last value.
use Prim.Native.Nat.{ℕ}
use mathlib.Core.List.{List, [], ◌∷◌}
use lib.ListN.{length}
use seplogic.Ra.Ura.{Ura}
use base.Fraction.{full_share}
use mir.Syntax.{Callee, Place, Opd as Operand, Body, seq, call, named}
use mir.Val.{Val, vptr}
use base.Logic.{SProp, ent, emp, ex, sep}
use base.Fml.{GName, Fml, ftrue, flft, flent, fres, fdead}
use prog.Wp.{Env, Calls, Loops}
use types.Logic.{Logic, sem}
use contract.Monad.{fact}
use sound.WpLaws.{FmC}
use types.Kit.{Goal, Soaks, Item, ‵, raw, ◌⊛◌, some, later, Post, runs, lands, settles, Seq, ◌$◌, ◌∵◌, !, qed, by, move, drop, use1, use2, use3, split}
use types.Kit.{pick, frame, await, updating, now as at_once, show, done}
use types.SemTy.{Body as Held-at}
use types.Share.{arr_parts}
use types.Tokens.{lft_new, lft_end}
use types.Run.{Opds}
use denote.RattleType.{RattleType}
use denote.Laws.{Is, shows}
use denote.Memory.{mem, shares}
use denote.Copied.{Copied}
use denote.Ref.{Bor, MutBor, MutRef}
use denote.Slice.{slice_val, MutSlice, ShrSlice, Room, finally}
use denote.Index.{row}
use denote.Lend.{Held, lends_ref, ref_back}
use denote.Steps.{peeks, heard}
use denote.Triple.Statement.{Contract, Triple}
use denote.Triple.Call.{calls_at, calls_at_last}
use denote.Triple.Walked.{says}
use Rattle.lent_walks.proofs.Rows.{shares_row, shared_back, lends_row, row_back}

-- what lies at (b, o), lent under the name δ
abbrev pub under : {X : Type 0} → GName → X → ℕ → ℕ → MutBor X
under δ x b o = record { ref_ptr = (b, o); ghost_name = δ; now = x }

-- the same, lent by `&`
abbrev pub shown : {X : Type 0} → X → ℕ → ℕ → Bor X
shown x b o = record { ref_ptr = (b, o); now = x }

-- what is lent: what lies there, what the reference owns for a lifetime under a name, the lender's part, what says the last value, and what then lies there
pub record Loan {M : Type 1} {𝓤 : Ura M} (𝓛 : Logic 𝓤) (Z : Type 0) : Type 1 where
  pub here : Fml
  pub own : ℕ → GName → Fml
  pub part : GName → Fml
  pub last : GName → Z → Fml
  pub after : Z → Fml
  pub lends : (ν : ℕ) → ent 𝓤 (sem 𝓛 here) (𝓛.H.⇛ (ex 𝓤 (λ (δ : GName). sep 𝓤 (sem 𝓛 (own ν δ)) (𝓛.A.lent (ν ∷ []) (part δ)))))
  pub back : (ν : ℕ) (δ : GName) (z : Z) → ent 𝓤 (sep 𝓤 (𝓛.A.dead (ν ∷ [])) (sep 𝓤 (𝓛.A.lent (ν ∷ []) (part δ)) (sem 𝓛 (last δ z))))
      (𝓛.H.⇛ (sem 𝓛 (after z)))

module _ {M : Type 1} {𝓤 : Ura M} (𝓛 : Logic 𝓤) (R : RattleType) where
  -- one value, by `&mut`
  open 𝓛 use {H, A}

  abbrev pub lent_ref : R.Denot → ℕ → ℕ → Loan 𝓛 R.Denot
  lent_ref h b o =
      record {
        here = (mem R).own_at h b o;
        own = λ ν δ. (MutRef (named 0) (ν ∷ []) R).own_val (under δ h b o) (vptr b o ∷ []);
        part = λ δ. Held-at (mem R) b o δ;
        last = λ δ z. fres δ (R.coded.code z);
        after = λ z. (mem R).own_at z b o;
        lends = λ ν. lends_ref 𝓛 R (named 0) (ν ∷ []) h b o;
        back = λ ν δ z. ref_back 𝓛 R (ν ∷ []) δ z b o;
      }

  -- a row, by `&mut`
  abbrev pub lent_row : (ys : List R.Denot) → ℕ → ℕ → Room R (length ys) → Loan 𝓛 (List R.Denot)
  lent_row ys b o room =
      record {
        here = row R full_share ys b o;
        own = λ ν δ. (MutSlice (named 0) (ν ∷ []) R).own_val (under δ ys b o) (slice_val (b, o) (length ys) ∷ []);
        part = λ δ. Held R (length ys) b o δ;
        last = λ δ zs. finally R δ zs;
        after = λ zs. row R full_share zs b o;
        lends = λ ν. lends_row 𝓛 R (named 0) (ν ∷ []) ys b o room;
        back = λ ν δ zs. row_back 𝓛 R (named 0) (ν ∷ []) ys b o δ zs;
      }

  -- a row of a type that can be copied, by `&`, which has no name: it comes back as it was
  abbrev pub shared_row : Copied 𝓛 R → (ys : List R.Denot) → ℕ → ℕ → Room R (length ys) → Loan 𝓛 (Unit {0})
  shared_row copied ys b o room =
      record {
        here = row R full_share ys b o;
        own = λ ν δ. (ShrSlice (named 0) (ν ∷ []) R).own_val (shown ys b o) (slice_val (b, o) (length ys) ∷ []);
        part = λ δ. (arr_parts (shares R) (length ys)).part full_share ys b o;
        last = λ δ z. ftrue;
        after = λ z. row R full_share ys b o;
        lends = λ ν. given ν ys b o room;
        back = λ ν δ z. kept ν ys b o;
      }
    where
      given : (ν : ℕ) (ys : List R.Denot) (b o : ℕ) → Room R (length ys) → ent 𝓤 (sem 𝓛 (row R full_share ys b o))
          (H.⇛ (ex 𝓤
          (λ (δ : GName). sep 𝓤 (sem 𝓛 ((ShrSlice (named 0) (ν ∷ []) R).own_val (shown ys b o) (slice_val (b, o) (length ys) ∷ [])))
          (A.lent (ν ∷ []) ((arr_parts (shares R) (length ys)).part full_share ys b o)))))
      given ν ys b o room =
          qed 𝓛 (‵ (row R full_share ys b o) ∷ []) ∵ updating ! $
          use1 𝓛
          (later (‵ ((ShrSlice (named 0) (ν ∷ []) R).own_val (shown ys b o) (slice_val (b, o) (length ys) ∷ []))
          ⊛ ‵ (flent (ν ∷ []) ((arr_parts (shares R) (length ys)).part full_share ys b o))))
          (shares_row 𝓛 R (named 0) (ν ∷ []) ys b o copied room) $ await ! tt $ split ! $ at_once ! $
          show ! (λ (δ : GName). sep 𝓤 (sem 𝓛 ((ShrSlice (named 0) (ν ∷ []) R).own_val (shown ys b o) (slice_val (b, o) (length ys) ∷ [])))
          (A.lent (ν ∷ []) ((arr_parts (shares R) (length ys)).part full_share ys b o))) 0 $ done !

      kept : (ν : ℕ) (ys : List R.Denot) (b o : ℕ)
          → ent 𝓤 (sep 𝓤 (A.dead (ν ∷ [])) (sep 𝓤 (A.lent (ν ∷ []) ((arr_parts (shares R) (length ys)).part full_share ys b o)) (emp 𝓤)))
          (H.⇛ (sem 𝓛 (row R full_share ys b o)))
      kept ν ys b o =
          qed 𝓛 (‵ (fdead (ν ∷ [])) ∷ ‵ (flent (ν ∷ []) ((arr_parts (shares R) (length ys)).part full_share ys b o)) ∷ ‵ ftrue ∷ []) ∵
          move ! (2 ∷ []) $ drop ! $ by ! (shared_back 𝓛 R (named 0) (ν ∷ []) ys b o)

-- what a callee's `post` comes to: the token comes back, with some result r and some last value z, and φ r z
abbrev pub GivesBack : {M : Type 1} {𝓤 : Ura M} (𝓛 : Logic 𝓤) {Z : Type 0} → Loan 𝓛 Z → (c : Contract 𝓤) → (ℕ → GName → c.Ghost)
    → (D : RattleType) → (D.Denot → Z → Type 0) → Type 1
GivesBack {𝓤 = 𝓤} 𝓛 {Z} l c x D φ = (ν : ℕ) (δ : GName) (v : Val) → ent 𝓤 (c.post (x ν δ) v)
    (𝓛.H.⇛ (ex 𝓤
    (λ (r : D.Denot). ex 𝓤 (λ (z : Z). sep 𝓤 (𝓛.A.lft (ν ∷ []) full_share)
    (sep 𝓤 (sem 𝓛 (D.own_val r (v ∷ []))) (sep 𝓤 (sem 𝓛 (l.last δ z)) (fact 𝓤 (φ r z))))))))

module _ {M : Type 1} {𝓤 : Ura M} {𝓛 : Logic 𝓤} {K : Type 0} {Γ : List (Item 𝓤)} {Z : Type 0} where
  -- before the call, and after it
  open 𝓛 use {H, A}

  lends_for : {G : Goal 𝓤 H} → K → Soaks G → (l : Loan 𝓛 Z) (c : Contract 𝓤) (x : ℕ → GName → c.Ghost)
      → ((ν : ℕ) (δ : GName) → ent 𝓤 (sep 𝓤 (A.lft (ν ∷ []) full_share) (sem 𝓛 (l.own ν δ))) (c.pre (x ν δ)))
      → ((ν : ℕ) (δ : GName) → Seq K 𝓛 (raw (c.pre (x ν δ)) ∷ ‵ (flent (ν ∷ []) (l.part δ)) ∷ Γ) G) → Seq K 𝓛 (‵ l.here ∷ Γ) G
  lends_for t z l c x goes k =
      lft_new t z (λ ν. move t (1 ∷ []) $ use1 𝓛 (later (some (λ (δ : GName). ‵ (l.own ν δ) ⊛ ‵ (flent (ν ∷ []) (l.part δ))))) (l.lends ν) $
      await t z $ pick t (λ δ. split t $
      move t (2 ∷ 0 ∷ []) $ use2 𝓛 (raw (c.pre (x ν δ))) (goes ν δ) $ k ν δ))

  has_back : {G : Goal 𝓤 H} → K → Soaks G → (l : Loan 𝓛 Z) (c : Contract 𝓤) (x : ℕ → GName → c.Ghost) (D : RattleType) (φ : D.Denot → Z → Type 0)
      → GivesBack 𝓛 l c x D φ → (ν : ℕ) (δ : GName) (v : Val)
      → ((r : D.Denot) (z : Z) → φ r z → Is D r (v ∷ []) → Seq K 𝓛 (‵ (l.after z) ∷ Γ) G)
      → Seq K 𝓛 (raw (c.post (x ν δ) v) ∷ ‵ (flent (ν ∷ []) (l.part δ)) ∷ Γ) G
  has_back t s l c x D φ gives ν δ v k =
      use1 𝓛
      (later (some (λ (r : D.Denot). some (λ (z : Z). ‵ (flft (ν ∷ []) full_share) ⊛ (‵ (D.own_val r (v ∷ [])) ⊛ (‵ (l.last δ z) ⊛ raw (fact 𝓤 (φ r z))))))))
      (gives ν δ v) $ await t s $ pick t (λ r. pick t (λ z.
      split t $ lft_end t s $ move t (1 ∷ []) $ split t $
      peeks t D (Is D) (shows 𝓛 D) r (v ∷ []) (λ is. drop t $ split t $ move t (1 ∷ []) $ heard t (φ r z) (λ e.
      move t (1 ∷ 2 ∷ 0 ∷ []) $ use3 𝓛 (later (‵ (l.after z))) (l.back ν δ z) $ await t s $ k r z e is))))

  module _ {E : Env 𝓤 H} {C : Calls 𝓤 H} {f : Callee} {xs : List Operand} {Λ : Loops 𝓤 H} {q : Post 𝓤 H} {d : Place} where
    -- the operands are read with what the callee asks and the lender's part in front, in the place of what is lent
    pub calls_lent : {rest : Body} → K → FmC 𝓤 H 𝓛.laws C → (l : Loan 𝓛 Z) (c : Contract 𝓤) → Triple 𝓤 (C f) c → (x : ℕ → GName → c.Ghost)
        → ((ν : ℕ) (δ : GName) → ent 𝓤 (sep 𝓤 (A.lft (ν ∷ []) full_share) (sem 𝓛 (l.own ν δ))) (c.pre (x ν δ)))
        → (D : RattleType) (φ : D.Denot → Z → Type 0) → GivesBack 𝓛 l c x D φ
        → ((ν : ℕ) (δ : GName) → Opds K 𝓛 (raw (c.pre (x ν δ)) ∷ ‵ (flent (ν ∷ []) (l.part δ)) ∷ Γ) E xs (c.args (x ν δ)))
        → ((v : Val) (r : D.Denot) (z : Z) → φ r z → Is D r (v ∷ []) → Seq K 𝓛 (‵ (l.after z) ∷ Γ) (lands C Λ E d v rest q))
        → Seq K 𝓛 (‵ l.here ∷ Γ) (runs C Λ E (seq (call f xs d) rest) q)
    calls_lent t fm l c met x goes D φ gives os k =
        lends_for t tt l c x goes (λ ν δ. calls_at t fm c met (x ν δ) (os ν δ) (λ v. has_back t tt l c x D φ gives ν δ v (k v)))

    -- the same with the operands first, where one of them is read off the code and says what is bound
    pub calls_lent_read : {rest : Body} → K → FmC 𝓤 H 𝓛.laws C → (l : Loan 𝓛 Z) (c : Contract 𝓤) → Triple 𝓤 (C f) c → (x : ℕ → GName → c.Ghost)
        → ((ν : ℕ) (δ : GName) → Opds K 𝓛 (raw (c.pre (x ν δ)) ∷ ‵ (flent (ν ∷ []) (l.part δ)) ∷ Γ) E xs (c.args (x ν δ)))
        → ((ν : ℕ) (δ : GName) → ent 𝓤 (sep 𝓤 (A.lft (ν ∷ []) full_share) (sem 𝓛 (l.own ν δ))) (c.pre (x ν δ)))
        → (D : RattleType) (φ : D.Denot → Z → Type 0) → GivesBack 𝓛 l c x D φ
        → ((v : Val) (r : D.Denot) (z : Z) → φ r z → Is D r (v ∷ []) → Seq K 𝓛 (‵ (l.after z) ∷ Γ) (lands C Λ E d v rest q))
        → Seq K 𝓛 (‵ l.here ∷ Γ) (runs C Λ E (seq (call f xs d) rest) q)
    calls_lent_read t fm l c met x os goes D φ gives k = calls_lent t fm l c met x goes D φ gives os k

    -- the same where the call ends a block
    pub calls_lent_last : K → FmC 𝓤 H 𝓛.laws C → (l : Loan 𝓛 Z) (c : Contract 𝓤) → Triple 𝓤 (C f) c → (x : ℕ → GName → c.Ghost)
        → ((ν : ℕ) (δ : GName) → ent 𝓤 (sep 𝓤 (A.lft (ν ∷ []) full_share) (sem 𝓛 (l.own ν δ))) (c.pre (x ν δ)))
        → (D : RattleType) (φ : D.Denot → Z → Type 0) → GivesBack 𝓛 l c x D φ
        → ((ν : ℕ) (δ : GName) → Opds K 𝓛 (raw (c.pre (x ν δ)) ∷ ‵ (flent (ν ∷ []) (l.part δ)) ∷ Γ) E xs (c.args (x ν δ)))
        → ((v : Val) (r : D.Denot) (z : Z) → φ r z → Is D r (v ∷ []) → Seq K 𝓛 (‵ (l.after z) ∷ Γ) (settles E d v q))
        → Seq K 𝓛 (‵ l.here ∷ Γ) (runs C Λ E (call f xs d) q)
    calls_lent_last t fm l c met x goes D φ gives os k =
        lends_for t tt l c x goes (λ ν δ. calls_at_last t fm c met (x ν δ) (os ν δ) (λ v. has_back t tt l c x D φ gives ν δ v (k v)))

-- a `post` with one lifetime, as `GivesBack` has it, once what it says of last values is told
module _ {M : Type 1} {𝓤 : Ura M} (𝓛 : Logic 𝓤) where
  open 𝓛 use {H, A}

  pub returned : (ν : ℕ) (D : RattleType) {Z : Type 0} (last : Z → Fml) (φ : D.Denot → Z → Type 0) (said : D.Denot → SProp 𝓤) (v : Val)
      → ((r : D.Denot) → ent 𝓤 (said r) (ex 𝓤 (λ (z : Z). sep 𝓤 (sem 𝓛 (last z)) (fact 𝓤 (φ r z)))))
      → ent 𝓤 (H.⇛ (ex 𝓤 (λ (r : D.Denot). sep 𝓤 (sep 𝓤 (sep 𝓤 (A.lft (ν ∷ []) full_share) (emp 𝓤)) (sem 𝓛 (D.own_val r (v ∷ [])))) (said r))))
      (H.⇛ (ex 𝓤
      (λ (r : D.Denot). ex 𝓤 (λ (z : Z). sep 𝓤 (A.lft (ν ∷ []) full_share)
      (sep 𝓤 (sem 𝓛 (D.own_val r (v ∷ []))) (sep 𝓤 (sem 𝓛 (last z)) (fact 𝓤 (φ r z))))))))
  returned ν D {Z} last φ said v h =
      qed 𝓛 (later (some (λ (r : D.Denot). ((‵ (flft (ν ∷ []) full_share) ⊛ ‵ ftrue) ⊛ ‵ (D.own_val r (v ∷ []))) ⊛ raw (said r))) ∷ []) ∵ updating ! $
      await ! tt $ pick ! (λ r. split ! $
      move ! (1 ∷ []) $ use1 𝓛 (some (λ (z : Z). ‵ (last z) ⊛ raw (fact 𝓤 (φ r z)))) (h r) $ pick ! (λ z. at_once ! $
      show ! (λ (r' : D.Denot). ex 𝓤 (λ (z' : Z). sep 𝓤 (A.lft (ν ∷ []) full_share)
      (sep 𝓤 (sem 𝓛 (D.own_val r' (v ∷ []))) (sep 𝓤 (sem 𝓛 (last z')) (fact 𝓤 (φ r' z')))))) r $
      show ! (λ (z' : Z). sep 𝓤 (A.lft (ν ∷ []) full_share) (sep 𝓤 (sem 𝓛 (D.own_val r (v ∷ []))) (sep 𝓤 (sem 𝓛 (last z')) (fact 𝓤 (φ r z'))))) z $
      move ! (1 ∷ []) $ split ! $ split ! $ frame ! $ drop ! $ frame ! $ done !))

  -- what is said of last values, as `returned` asks it
  pub told : {Z : Type 0} (last : Z → Fml) (φ ψ : Z → Type 0) (z : Z) → (φ z → ψ z)
      → ent 𝓤 (sep 𝓤 (sem 𝓛 (last z)) (fact 𝓤 (φ z))) (ex 𝓤 (λ (y : Z). sep 𝓤 (sem 𝓛 (last y)) (fact 𝓤 (ψ y))))
  told {Z} last φ ψ z f =
      qed 𝓛 (‵ (last z) ∷ raw (fact 𝓤 (φ z)) ∷ []) ∵ show ! (λ (y : Z). sep 𝓤 (sem 𝓛 (last y)) (fact 𝓤 (ψ y))) z $ move ! (1 ∷ []) $
      heard ! (φ z) (λ p. says ! (f p) $ done !)
