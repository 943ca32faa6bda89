-- The state that stands at a tick is the last one whose clock is not after it, and its choice stands in the C function's answers: by induction on the events,
-- of which a refused one leaves the state and an accepted one moves the clock to its time.
use Prim.Native.Nat.{ℕ, zero, suc, ◌+◌, ◌*◌, ◌≤◌, ◌<◌}
use mathlib.Core.Path.{◌≡◌, refl, sym, ap, ◌∙◌}
use mathlib.Core.Bool.{Bool, true, false, cond}
use mathlib.Core.List.{List}
use mathlib.Core.Logic.{◌↔◌}
use native.Mathlib.Decide.{dec_lt, dec_le}
use native.Mathlib.Nat.{le_refl}
use native.Mathlib.Omega.{arith}
use borrow.Author.Tests.{leb-true, leb-false, lt-ltb, le-ltb}
use lib.Dec.{leb, ltb}
use lib.ListN.{length, take}
use Rattle.laws.proofs.Answers.{exactly}
use Rattle.laws.proofs.Tests.{true_not_false, cond_same}
use Rattle.event_reading.specs.declared.Event.{Event}
use Rattle.event_logs.specs.Log.{events_of}
use Rattle.state_rules.specs.declared.State.{State}
use Rattle.state_rules.specs.Sound.{StateSound}
use Rattle.apply_events.specs.Answer.{Applied}
use Rattle.apply_events.specs.Apply.{applied}
use Rattle.apply_events.specs.Log.{state_after}
use Rattle.apply_events.proofs.After.{after_sound}
use Rattle.run_histories.specs.History.{accepts}
use Rattle.apply_events.proofs.Happened.{Happened, refusal, acceptance, happened}
use Rattle.rig_codes.proofs.Starts.{begins_sound, begins_idle}
use Rattle.guarantee_of_logs.specs.Places.{event_at, after_first}
use Rattle.guarantee_of_logs.specs.ChosenTime.{standing_at, StandsLast}
use Rattle.rig_codes.specs.Code.{begins}
use Rattle.guarantee_of_logs.specs.Bytes.{BothRead}
use Rattle.guarantee_of_logs.specs.Codes.{choice_code, CodeTells, last_accepted, last_refused}
use Rattle.guarantee_of_logs.specs.CodeTime.{standing_code}
use Rattle.guarantee_of_logs.proofs.Places.{after_more}
use Rattle.guarantee_of_logs.proofs.Codes.{choice_small, whole_count, codes_of_logs}

-- ---- the last whose clock is not after y

module _ (s : State) (es : List Event) (start : s.clock ≡ 0) (y : ℕ) where
  stands : (n : ℕ) → StandsLast s es n y (standing_at s es n y)
  unfolding standing_at state_after
  stands zero = record { place = 0; among = le_refl 0; after = refl; not_after = omega arith; later = λ k p q. absurd (omega arith) }
  stands (suc n) = go (leb (after_first s es (suc n)).clock y) refl (stands n)
    where
      go : (b : Bool) → leb (after_first s es (suc n)).clock y ≡ b → StandsLast s es n y (standing_at s es n y)
          → StandsLast s es (suc n) y (cond b (after_first s es (suc n)) (standing_at s es n y))
      go true e f =
          record { place = suc n; among = le_refl (suc n); after = refl; not_after = leb-true _ _ e; later = λ k p q. absurd (omega arith) }
      go false e f =
          record {
            place = f.place;
            among = omega (arith, f.among);
            after = f.after;
            not_after = f.not_after;
            later = λ k p q. next k p q (dec_le k n);
          }
        where
          next : (k : ℕ) → f.place < k → k ≤ suc n → Dec (k ≤ n) → y < (after_first s es k).clock
          next k p q (yes l) = f.later k p l
          next k p q (no l) = let z : k ≡ suc n = omega arith in rw z (leb-false _ _ e)

  -- there is no other
  only : (n : ℕ) (q r : State) → StandsLast s es n y q → StandsLast s es n y r → q ≡ r
  only n q r f g = go (dec_lt f.place g.place) (dec_lt g.place f.place)
    where
      go : Dec (f.place < g.place) → Dec (g.place < f.place) → q ≡ r
      go (yes l) d = absurd (omega (arith, f.later g.place l g.among, ap (λ (x : State). x.clock) g.after, g.not_after))
      go (no l) (yes k) = absurd (omega (arith, g.later f.place k f.among, ap (λ (x : State). x.clock) f.after, f.not_after))
      go (no l) (no k) = let z : f.place ≡ g.place = omega arith in f.after ∙ ap (after_first s es) z ∙ sym g.after

  pub standing_exactly : (n : ℕ) (q : State) → (standing_at s es n y ≡ q) ↔ StandsLast s es n y q
  standing_exactly n = exactly (StandsLast s es n y) (stands n) (λ q f. only n q (standing_at s es n y) f (stands n))

-- ---- what stands, by the answers of the C function

pub accepted_clock : (s : State) (e : Event) → StateSound s → accepts (applied s e).answer ≡ true → (applied s e).state.clock ≡ e.time
accepted_clock s e g = go (happened s e)
  where
    go : {a : Applied} → Happened s e a → accepts a.answer ≡ true → a.state.clock ≡ e.time
    go (refusal n z v) q = absurd (true_not_false (sym q))
    go (acceptance h c o) q = refl

module _ (s : State) (es : List Event) (y : ℕ) where
  -- a state that is tried again changes nothing
  pub again : (n : ℕ) → cond (leb (after_first s es n).clock y) (after_first s es n) (standing_at s es n y) ≡ standing_at s es n y
  unfolding standing_at state_after
  again zero = cond_same (leb s.clock y) s
  again (suc n) = go (leb (after_first s es (suc n)).clock y) (after_first s es (suc n)) (standing_at s es n y)
    where
      go : (b : Bool) (q r : State) → cond b q (cond b q r) ≡ cond b q r
      go true q r = refl
      go false q r = refl

  one_more : StateSound s → {n c : ℕ} (d : ℕ) → n < length es → CodeTells s es (suc n) c → choice_code (standing_at s es n y) ≡ d
      → choice_code (standing_at s es (suc n) y) ≡ cond (cond (ltb c 32) (leb (event_at es n).time y) false) c d
  unfolding standing_at
  one_more g d h (last_accepted n a) q =
      let c = ap (λ (x : State). x.clock) (after_more s es n h) ∙ accepted_clock (after_first s es n) (event_at es n) (after_sound s (take n es) g) a in
      let t : leb (after_first s es (suc n)).clock y ≡ leb (event_at es n).time y = ap (λ (x : ℕ). leb x y) c in
      let l : ltb (choice_code (after_first s es (suc n))) 32 ≡ true =
      lt-ltb (choice_code (after_first s es (suc n))) 32 (omega (arith, choice_small (after_first s es (suc n)))) in
      rw (l, t) (go (leb (event_at es n).time y))
    where
      go : (b : Bool) → choice_code (cond b (after_first s es (suc n)) (standing_at s es n y)) ≡ cond b (choice_code (after_first s es (suc n))) d
      go true = refl
      go false = q
  one_more g d h (last_refused n k r z) q = rw (le-ltb (32 + k) 32 (omega arith), z, again n) q

pub choice_stands : (table log : List ℕ) → BothRead table log → length log ≤ 65536 → (n y : ℕ) → 20 * n ≤ length log
    → choice_code (standing_at (begins table) (events_of log) n y) ≡ standing_code table log n y
unfolding standing_code standing_at
choice_stands table log read size zero y h = rw (begins_idle table read.tabled)
choice_stands table log read size (suc n) y h =
    one_more (begins table) (events_of log) y (begins_sound table read.tabled) (standing_code table log n y)
    (omega (arith, whole_count log read.whole)) (codes_of_logs table log read size (suc n) h)
    (choice_stands table log read size n y (omega arith))
