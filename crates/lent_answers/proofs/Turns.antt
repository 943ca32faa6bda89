-- An event in place comes to what `applied` says of the row's state: by the ruling on the event's own record, and the row settled place by place.
use Prim.Native.Nat.{ℕ, min, ◌<◌}
use mathlib.Core.Path.{◌≡◌, refl, sym, ap, subst, ◌∙◌}
use mathlib.Core.Bool.{Bool, true, false, not, cond}
use mathlib.Core.List.{List}
use native.Mathlib.Nat.{le_refl}
use native.Mathlib.Omega.{arith}
use borrow.Author.Tests.{eqb-true, eqb-false}
use lib.Dec.{T, eqb}
use lib.ListN.{length, get_or, set, length-set}
use Rattle.laws.proofs.Tests.{test_held, test_failed}
use Rattle.event_reading.specs.declared.Event.{Event}
use Rattle.task_records.specs.declared.Record.{Record}
use Rattle.task_steps.specs.Opening.{no_record}
use Rattle.state_choice.specs.Best.{Best}
use Rattle.state_rules.specs.declared.State.{State}
use Rattle.state_rules.specs.Sound.{StateSound, state_holds}
use Rattle.state_choice.specs.Choice.{best_to}
use Rattle.state_choice.proofs.Least.{best_within}
use Rattle.state_rules.proofs.Sounding.{state_tells}
use Rattle.apply_events.specs.Answer.{Answer}
use Rattle.apply_events.specs.Answer.{Refused}
use Rattle.apply_events.specs.Answer.{Applied}
use Rattle.apply_ruling.specs.Answer.{Ruling}
use Rattle.apply_events.specs.Steps.{expired_all}
use Rattle.apply_events.specs.Apply.{told_of, answer_of, moved, refused, applied}
use Rattle.apply_ruling.specs.Ruling.{ruled}
use Rattle.apply_events.proofs.Frame.{refused_stays}
use Rattle.apply_events.proofs.Happened.{unsound_is}
use Rattle.apply_engine.proofs.Rulings.{seat_ruled, Accepts, refused_by, accepted_by}
use Rattle.apply_engine.proofs.Settled.{settled_to, stored_first}
use Rattle.lent_answers.specs.Turn.{Turn}
use Rattle.lent_records.specs.Row.{state_of}
use Rattle.lent_records.specs.Expiry.{expired_row}
use Rattle.lent_records.proofs.Expired.{row_expired}
use Rattle.lent_answers.specs.Turns.{seat_in, ruled_row, unsound, stored_row, settled_row, row_answer, accepted_turn, refused_turn}

-- ---- step 1 over the row is that of the row's state

pub row_step : (l : List Record) (c t : ℕ) → expired_all (state_of l c) t ≡ expired_row l t
row_step l c t = refl

-- ---- the choice over a settled row

-- the chosen place is one of the row's, where there is one
pub chosen_within : (zs : List Record) (best : Best) → 0 < length zs → best ≡ best_to zs (length zs) → best.at < length zs
chosen_within zs best h e = subst (λ (b : Best). b.at < length zs) (sym e) (best_within zs (length zs) h)

-- ---- the event as a whole

module _ (l : List Record) (c : ℕ) (e : Event) where
  abbrev s : State
  s = state_of l c

  abbrev q : Ruling
  q = ruled_row l c e

  -- a sound row has a record
  sound_some : StateSound s → 0 < length l
  sound_some p = omega (arith, p.counted.one)

  pub holds_some : state_holds s ≡ true → 0 < length l
  holds_some h = sound_some ((state_tells s).holds h)

  -- refused: the row and the clock are as lent
  pub turn_refused : (q.refusal ≡ 0 → ⊥) → applied s e ≡ refused s q.refusal
  unfolding applied
  turn_refused f = go (state_holds s) refl f
    where
      go : (b : Bool) → state_holds s ≡ b → ((cond b (ruled c (length l) (get_or l (seat_in l e) no_record) e) unsound).refusal ≡ 0 → ⊥)
          → applied s e ≡ refused s (cond b (ruled c (length l) (get_or l (seat_in l e) no_record) e) unsound).refusal
      go true h g = refused_by s e ((state_tells s).holds h) (seat_ruled s e) refl g
      go false h g = unsound_is s e ((state_tells s).fails h)

  -- accepted: what is needed to settle the row, and what it comes to
  pub record Settles (x : Record) : Type 0 where
    pub some : 0 < length l
    pub same : applied s e ≡ record { answer = row_answer (settled_row l e x); state = moved s e.time (settled_row l e x) }

  abbrev k : ℕ
  k = seat_in l e

  settled_row_lem : (u : Ruling) → StateSound s → Accepts s e u → Settles u.after
  settled_row_lem u p a =
      let x = u.after in
      let rows : settled_row l e x ≡ set (settled_to l e.time (length l)) k x =
      ap (settled_to (stored_row l e x) e.time) (length-set l k x) ∙ stored_first l e.time (length l) k x (le_refl (length l)) a.below a.prompt in
      let long : length (settled_row l e x) ≡ length l = (row_expired (stored_row l e x) e.time).long ∙ length-set l k x in
      let all : min (length l) 16 ≡ length (settled_row l e x) = omega (arith, p.counted.most, long) in
      let told : answer_of (moved s e.time (settled_row l e x)) ≡ row_answer (settled_row l e x) =
      ap (λ (m : ℕ). told_of (best_to (settled_row l e x) m) (get_or (settled_row l e x) (best_to (settled_row l e x) m).at no_record).class) all in
      record {
        some = sound_some p;
        same = rw (a.same, ← rows, told);
      }

  pub turn_accepted : q.refusal ≡ 0 → Settles q.after
  turn_accepted z = go (state_holds s) refl z
    where
      go : (b : Bool) → state_holds s ≡ b → (cond b (ruled c (length l) (get_or l (seat_in l e) no_record) e) unsound).refusal ≡ 0
          → Settles (cond b (ruled c (length l) (get_or l (seat_in l e) no_record) e) unsound).after
      go true h f =
          let p = (state_tells s).holds h in
          settled_row_lem (seat_ruled s e) p (accepted_by s e p (seat_ruled s e) refl f)
      go false h f = absurd (omega (arith, f))

-- ---- as the proofs of the engine cite it

module _ (l : List Record) (c : ℕ) (e : Event) where
  -- what `apply_in` says of its result and of the row at exit
  abbrev pub TurnSays : Turn → List Record → Type 0
  TurnSays u zs =
      (u.answer ≡ (applied (state_of l c) e).answer) × ((u.clock ≡ (applied (state_of l c) e).state.clock) × (zs ≡ (applied (state_of l c) e).state.records))

  module _ (r : Ruling) (q : r ≡ ruled_row l c e) where
    number : r.refusal ≡ (ruled_row l c e).refusal
    number = ap (λ (x : Ruling). x.refusal) q

    settles : T (eqb r.refusal 0) → Settles l c e r.after
    settles t =
        subst (λ (x : Ruling). Settles l c e x.after) (sym q) (turn_accepted l c e (sym number ∙ eqb-true r.refusal 0 (test_held (eqb r.refusal 0) t)))

    pub accepted_some : T (eqb r.refusal 0) → 0 < length l
    accepted_some t = (settles t).some

    pub says_accepted : T (eqb r.refusal 0) → (a : Answer) (zs : List Record) → (a ≡ row_answer zs) × (zs ≡ settled_row l e r.after) → (u : Turn)
        → u ≡ accepted_turn a e → TurnSays u zs
    says_accepted t a zs z u w =
        let same = (settles t).same in
        let told : a ≡ row_answer (settled_row l e r.after) = z.0 ∙ ap row_answer z.1 in (
          ap (λ (x : Turn). x.answer) w ∙ told ∙ sym (ap (λ (x : Applied). x.answer) same),
          (ap (λ (x : Turn). x.clock) w ∙ sym (ap (λ (x : Applied). x.state.clock) same), z.1 ∙ sym (ap (λ (x : Applied). x.state.records) same)),
        )

    pub says_refused : T (not (eqb r.refusal 0)) → (u : Turn) → u ≡ refused_turn r c → TurnSays u l
    says_refused t u w =
        let f : r.refusal ≡ 0 → ⊥ = eqb-false r.refusal 0 (test_failed (eqb r.refusal 0) t) in
        let same : applied (state_of l c) e ≡ refused (state_of l c) r.refusal =
        turn_refused l c e (λ z. f (number ∙ z)) ∙ ap (refused (state_of l c)) (sym number) in (
          ap (λ (x : Turn). x.answer) w ∙ sym (ap (λ (x : Applied). x.answer) same),
          (ap (λ (x : Turn). x.clock) w ∙ sym (ap (λ (x : Applied). x.state.clock) same), sym (ap (λ (x : Applied). x.state.records) same)),
        )

  -- so a refused event leaves the row and the clock as lent
  pub refused_as_lent : (m : ℕ) → (u : Turn) (zs : List Record) → TurnSays u zs → u.answer ≡ Refused m → (u.clock ≡ c) × (zs ≡ l)
  refused_as_lent m u zs said z =
      let same : (applied (state_of l c) e).state ≡ state_of l c = refused_stays (state_of l c) e m (sym said.0 ∙ z) in
      (said.1.0 ∙ ap (λ (x : State). x.clock) same, said.1.1 ∙ ap (λ (x : State). x.records) same)
