-- An event is applied as the ruling on the record at its seat says: the seat is the event's task wherever the ruling takes a record.
use Prim.Native.Nat.{ℕ, ◌<◌}
use mathlib.Core.Path.{◌≡◌, sym, ap, ◌∙◌}
use mathlib.Core.Bool.{false}
use lib.ListN.{set}
use Rattle.event_reading.specs.declared.Event.{Event}
use Rattle.task_steps.specs.Opening.{late}
use Rattle.state_rules.specs.declared.State.{State}
use Rattle.state_rules.specs.State.{record_at}
use Rattle.state_rules.specs.Sound.{StateSound}
use Rattle.apply_ruling.specs.Answer.{Ruling}
use Rattle.apply_ruling.specs.Ruling.{seat_of, ruled}
use Rattle.apply_ruling.proofs.Seats.{seat_is, ruled_takes, same_number}
use Rattle.apply_events.specs.Steps.{expired_all}
use Rattle.apply_events.specs.Apply.{accepted, refused, carried_out, applied}
use Rattle.apply_events.proofs.Happened.{sound_acts, carried_refused, carried_accepted}

module _ (s : State) (e : Event) where
  -- the event's seat, and the ruling on the record there
  abbrev pub seat : ℕ
  seat = seat_of e.task s.count

  abbrev pub seat_ruled : Ruling
  seat_ruled = ruled s.clock s.count (record_at s seat) e

  -- an event that is accepted
  pub record Accepts (q : Ruling) : Type 0 where
    pub below : seat < s.count
    pub prompt : late q.after e.time ≡ false
    pub same : applied s e ≡ accepted s e.time (set (expired_all s e.time) seat q.after)

  module _ (p : StateSound s) where
    -- the ruling on the record of the event's task
    abbrev own : Ruling
    own = ruled s.clock s.count (record_at s e.task) e

    acts : applied s e ≡ carried_out s e own
    acts = sym (sound_acts s e p)

    number : seat_ruled.refusal ≡ own.refusal
    number = same_number s.clock s.count (record_at s e.task) e (record_at s seat) (λ c. ap (record_at s) (seat_is e.task s.count c))

    -- refused with the ruling's number
    pub refused_by : (q : Ruling) → q ≡ seat_ruled → (q.refusal ≡ 0 → ⊥) → applied s e ≡ refused s q.refusal
    refused_by q z n =
        let m = ap (λ (x : Ruling). x.refusal) z ∙ number in
        acts ∙ carried_refused s e own (λ y. n (m ∙ y)) ∙ ap (refused s) (sym m)

    -- or accepted, with the ruling's record
    pub accepted_by : (q : Ruling) → q ≡ seat_ruled → q.refusal ≡ 0 → Accepts q
    accepted_by q z n =
        let m : own.refusal ≡ 0 = sym (ap (λ (x : Ruling). x.refusal) z ∙ number) ∙ n in
        let t = ruled_takes s.clock s.count (record_at s e.task) e m in
        let k = seat_is e.task s.count t.present in
        record {
          below = rw k t.present;
          prompt = rw (z, k) t.prompt;
          same = acts ∙ carried_accepted s e own m ∙ rw (z, k);
        }
