-- An event over the row of a state's tasks comes to what it comes to over the state: no test looks past the tasks, and no step stores there.
use Prim.Native.Nat.{ℕ, zero, suc, min, ◌≤◌, ◌<◌}
use mathlib.Core.Path.{◌≡◌, refl, sym, ap, subst, ◌∙◌}
use mathlib.Core.Bool.{Bool, true, false}
use mathlib.Core.List.{List, ◌++◌}
use native.Mathlib.Decide.{ℕ_discrete}
use native.Mathlib.Nat.{le_refl}
use native.Mathlib.Omega.{arith}
use borrow.Author.Tests.{le-leb, lt-leb}
use lib.ListN.{length, get_or, set, take, drop, length-take, take-append-drop}
use lib.Seq.{get_or-take}
use Rattle.laws.specs.Stores.{filled}
use Rattle.laws.proofs.Stores.{filled_same, take-set, drop-set, take_filled, drop_filled}
use Rattle.event_reading.specs.declared.Event.{Event}
use Rattle.task_records.specs.declared.Record.{Record}
use Rattle.task_steps.specs.Opening.{expired, no_record}
use Rattle.state_choice.specs.Best.{Best}
use Rattle.state_rules.specs.declared.State.{State}
use Rattle.state_rules.specs.State.{record_at}
use Rattle.state_rules.specs.Sound.{StateSound, each_holds, state_holds}
use Rattle.state_choice.specs.Choice.{best_to}
use Rattle.state_choice.proofs.Least.{best_within}
use Rattle.state_rules.proofs.Sounding.{state_tells}
use Rattle.apply_events.specs.Answer.{Answer}
use Rattle.apply_events.specs.Answer.{Applied}
use Rattle.apply_ruling.specs.Answer.{Ruling}
use Rattle.apply_events.specs.Steps.{expired_all}
use Rattle.apply_events.specs.Apply.{told_of, answer_of, moved, accepted, refused, applied}
use Rattle.apply_ruling.specs.Ruling.{seat_of, ruled}
use Rattle.apply_events.proofs.Frame.{count_stays}
use Rattle.apply_events.proofs.Happened.{unsound_is}
use Rattle.apply_engine.proofs.Rulings.{seat_ruled, refused_by, accepted_by}
use Rattle.lent_answers.specs.Turn.{Turn}
use Rattle.lent_records.specs.Row.{state_of, row_of}
use Rattle.lent_answers.specs.Turns.{placed_by}
use Rattle.lent_records.proofs.Choices.{best_front}
use Rattle.apply_ruling.proofs.Seats.{seat_below}
use Rattle.lent_answers.proofs.Turns.{TurnSays}

each_front : (l : List Record) (c n k : ℕ) → k ≤ n → each_holds (take n l) c k ≡ each_holds l c k
unfolding each_holds
each_front l c n zero h = refl
each_front l c n (suc k) h = rw (each_front l c n k (omega arith), get_or-take n l k no_record h)

-- ---- the event

module _ (s : State) (e : Event) where
  abbrev n : ℕ
  n = s.count

  abbrev l : List Record
  l = s.records

  abbrev t : ℕ
  t = e.time

  -- what an event over the row of the tasks comes to, beside what it comes to over the state
  pub record Same (a b : Applied) : Type 0 where
    pub answer : a.answer ≡ b.answer
    pub clock : a.state.clock ≡ b.state.clock
    pub front : a.state.records ≡ take n b.state.records
    pub rest : drop n b.state.records ≡ drop n l

  -- so the row's records and the places past them are the state's
  pub whole : {a b : Applied} → Same a b → b.state.records ≡ a.state.records ++ drop n l
  whole {a} {b} g =
      sym (take-append-drop n b.state.records) ∙ ap (λ (x : List Record). x ++ drop n b.state.records) (sym g.front)
      ∙ ap (λ (x : List Record). a.state.records ++ x) g.rest

  -- the row of the tasks, as a state that counts as many
  abbrev f : State
  f = record { count = n; clock = s.clock; records = take n l }

  below : (i : ℕ) → i < n → record_at f i ≡ record_at s i
  below i h = get_or-take n l i no_record h

  holds_same : state_holds f ≡ state_holds s
  unfolding state_holds
  holds_same = rw (each_front l s.clock n n (le_refl n))

  as_given : (m : ℕ) → Same (refused f m) (refused s m)
  as_given m = record { answer = refl; clock = refl; front = refl; rest = refl }

  abbrev stored : Record → List Record
  stored x = set (expired_all s t) (seat_of e.task n) x

  rows_same : (x : Record) → set (expired_all f t) (seat_of e.task n) x ≡ take n (stored x)
  rows_same x =
      let k = seat_of e.task n in
      let step : filled (λ i. expired (record_at f i) t) n (take n l) ≡ filled (λ i. expired (record_at s i) t) n (take n l) =
      filled_same (λ i. expired (record_at f i) t) (λ i. expired (record_at s i) t) (take n l) n (λ i h. ap (λ (r : Record). expired r t) (below i h)) in
      ap (λ (r : List Record). set r k x) (step ∙ sym (take_filled (λ i. expired (record_at s i) t) l n n)) ∙ sym (take-set n k (expired_all s t) x)

  module _ (some : 0 < n) where
    told_same : (r : List Record) → answer_of (moved f t (take n r)) ≡ answer_of (moved s t r)
    told_same r =
        let m = min n 16 in
        let b : best_to (take n r) m ≡ best_to r m = best_front r n m (omega arith) in
        let w : (best_to r m).at < m = best_within r m (omega arith) in
        ap (λ (x : Best). told_of x (get_or (take n r) x.at no_record).class) b
        ∙ ap (λ (x : Record). told_of (best_to r m) x.class) (get_or-take n r (best_to r m).at no_record (omega (arith, w)))

    accepts_same : (x : Record) → Same (accepted f t (set (expired_all f t) (seat_of e.task n) x)) (accepted s t (stored x))
    accepts_same x =
        let k = seat_of e.task n in
        record {
          answer = ap (λ (r : List Record). answer_of (moved f t r)) (rows_same x) ∙ told_same (stored x);
          clock = refl;
          front = rows_same x;
          rest = drop-set n k (expired_all s t) x (seat_below e.task n some) ∙ drop_filled (λ i. expired (record_at s i) t) l n n (le_refl n);
        }

  -- on sound states both are ruled alike
  sound_same : StateSound s → StateSound f → Same (applied f e) (applied s e)
  sound_same p p' = go (ℕ_discrete q.refusal 0)
    where
      q : Ruling
      q = seat_ruled s e

      some : 0 < n
      some = omega (arith, p.counted.one)

      alike : q ≡ seat_ruled f e
      alike = ap (λ (r : Record). ruled s.clock n r e) (sym (below (seat_of e.task n) (seat_below e.task n some)))

      go : Dec (q.refusal ≡ 0) → Same (applied f e) (applied s e)
      go (yes z) = rw ((accepted_by s e p q refl z).same, (accepted_by f e p' q alike z).same) (accepts_same some q.after)
      go (no z) = rw (refused_by s e p q refl z, refused_by f e p' q alike z) (as_given q.refusal)

  same : Same (applied f e) (applied s e)
  same = go (state_holds s) refl
    where
      go : (b : Bool) → state_holds s ≡ b → Same (applied f e) (applied s e)
      go true h = sound_same ((state_tells s).holds h) ((state_tells f).holds (holds_same ∙ h))
      go false h = rw (unsound_is s e ((state_tells s).fails h), unsound_is f e ((state_tells f).fails (holds_same ∙ h))) (as_given 15)

  -- a state with a place for each task: the event over its row of tasks
  pub in_place : n ≤ length l → Same (applied (state_of (row_of s) s.clock) e) (applied s e)
  in_place h =
      let long : length (row_of s) ≡ n = length-take n l ∙ omega arith in
      subst (λ (k : ℕ). Same (applied (record { count = k; clock = s.clock; records = take n l }) e) (applied s e)) (sym long) same

  -- the turn over the row, put back in front of what lies behind it
  pub placed_is : n ≤ length l → (u : Turn) (zs : List Record) → TurnSays (row_of s) s.clock e u zs → placed_by u n (zs ++ drop n l) ≡ applied s e
  placed_is h u zs said =
      let g = in_place h in
      made (said.0 ∙ g.answer) (sym (count_stays s e)) (said.1.0 ∙ g.clock) (ap (λ (r : List Record). r ++ drop n l) said.1.1 ∙ sym (whole g))
    where
      made : {a a' : Answer} {k k' c c' : ℕ} {r r' : List Record} → a ≡ a' → k ≡ k' → c ≡ c' → r ≡ r'
          → ◌≡◌ {A = Applied} (record { answer = a; state = record { count = k; clock = c; records = r } })
          (record { answer = a'; state = record { count = k'; clock = c'; records = r' } })
      made p q o w = rw (p, q, o, w)

-- more than 16 tasks are never sound
pub over_most : (s : State) (e : Event) → 16 < s.count → refused s 15 ≡ applied s e
unfolding applied state_holds
over_most s e h = rw (le-leb 1 s.count (omega arith), lt-leb s.count 16 h)
