-- An event carried out in place, without its choice: its ruling decides, its record is stored, and then each late record is closed, position by position.
-- So the state is that of `applied`, and a ruling that accepts a completion is a job met.
use Prim.Native.Nat.{ℕ, suc}
use mathlib.Core.Path.{◌≡◌, refl, sym, ap, ◌∙◌}
use mathlib.Core.Bool.{Bool, true, false}
use mathlib.Core.List.{List}
use native.Mathlib.Nat.{le_refl}
use lib.Dec.{eqb}
use lib.ListN.{get_or, set}
use Rattle.laws.specs.Stores.{filled}
use Rattle.laws.proofs.Stores.{filled_past}
use Rattle.event_reading.specs.declared.Event.{Event}
use Rattle.event_reading.specs.Event.{a_completion}
use Rattle.task_records.specs.declared.Record.{Record}
use Rattle.task_steps.specs.Opening.{expired, no_record}
use Rattle.state_choice.specs.Best.{Best}
use Rattle.state_rules.specs.declared.State.{State}
use Rattle.state_rules.specs.State.{record_at}
use Rattle.state_rules.specs.Sound.{StateSound}
use Rattle.apply_ruling.specs.Answer.{Ruling}
use Rattle.apply_ruling.specs.Ruling.{seat_of, ruled}
use Rattle.apply_ruling.proofs.Seats.{seat_is, ruled_takes, same_number}
use mathlib.Core.Bool.{cond}
use Rattle.apply_events.specs.Answer.{Run, Idle}
use Rattle.apply_events.specs.Answer.{Applied}
use Rattle.apply_events.specs.Steps.{expired_all}
use Rattle.apply_events.specs.Apply.{told_of, applied}
use Rattle.apply_events.proofs.Places.{places}
use Rattle.apply_engine.proofs.Rulings.{seat, seat_ruled, refused_by, accepted_by}
use Rattle.apply_engine.proofs.Settled.{settled_to, stored_first}
use Rattle.run_histories.specs.History.{accepts}
use Rattle.tally_histories.specs.Events.{met_by, closes_met}

-- ---- the row, position by position

module _ (l : List Record) (t : ℕ) where
  pub settled_none : l ≡ settled_to l t 0
  unfolding filled
  settled_none = refl

  pub settled_more : (n : ℕ) (row new : List Record)
      → row ≡ settled_to l t n → new ≡ set row n (expired (get_or row n no_record) t) → new ≡ settled_to l t (suc n)
  unfolding filled
  settled_more n row new g e =
      let there : get_or row n no_record ≡ get_or l n no_record =
      ap (λ (x : List Record). get_or x n no_record) g ∙ filled_past (λ i. expired (get_or l i no_record) t) l no_record n n (le_refl n) in
      e ∙ rw (there, g)

-- ---- the event

-- an answer that tells a choice is no refusal
told_accepts : (b : Best) (class : ℕ) → accepts (told_of b class) ≡ true
told_accepts b class = go b.found
  where
    go : (f : Bool) → accepts (cond f (Run b.at class) Idle) ≡ true
    go true = refl
    go false = refl

module _ (s : State) (e : Event) (p : StateSound s) (q : Ruling) (z : q ≡ seat_ruled s e) where
  -- refused: no job is met, and the state stays
  pub refused_meets : (q.refusal ≡ 0 → ⊥) → closes_met s e ≡ false
  refused_meets n = ap (λ (a : Applied). met_by a.answer e) (refused_by s e p q z n)

  pub refused_state : (q.refusal ≡ 0 → ⊥) → (applied s e).state ≡ s
  refused_state n = ap (λ (a : Applied). a.state) (refused_by s e p q z n)

  module _ (n : q.refusal ≡ 0) where
    -- accepted: a completion meets its job
    pub accepted_meets : closes_met s e ≡ eqb e.kind a_completion
    accepted_meets =
        let a = accepted_by s e p q z n in
        ap (λ (x : Applied). met_by x.answer e) a.same ∙ rw (told_accepts _ _)

    -- the seat is the event's task
    pub own_seat : seat s e ≡ e.task
    own_seat =
        let own = same_number s.clock s.count (record_at s e.task) e (record_at s (seat s e)) (λ c. ap (record_at s) (seat_is e.task s.count c)) in
        let m = sym own ∙ sym (ap (λ (x : Ruling). x.refusal) z) ∙ n in
        seat_is e.task s.count (ruled_takes s.clock s.count (record_at s e.task) e m).present

    -- and with every position passed the state is what the event leaves
    pub accepted_state : (next : State) → next.count ≡ s.count → next.clock ≡ e.time
        → next.records ≡ settled_to (set s.records (seat s e) q.after) e.time s.count → (applied s e).state ≡ next
    accepted_state next c k r =
        let a = accepted_by s e p q z n in
        let f : next.records ≡ set (expired_all s e.time) (seat s e) q.after =
        r ∙ stored_first s.records e.time s.count (seat s e) q.after (places s p) a.below a.prompt in
        ap (λ (x : Applied). x.state) a.same ∙ rw (← f, ← c, ← k)

-- ---- by other names of the seat and of the count

module _ (s : State) (e : Event) (n k : ℕ) (p : k ≡ seat_of e.task n) (q : s.count ≡ n) where
  pub seat_at : k ≡ seat s e
  seat_at = p ∙ rw q

  pub ruled_at : ruled s.clock n (record_at s k) e ≡ seat_ruled s e
  ruled_at = rw (p, q)
