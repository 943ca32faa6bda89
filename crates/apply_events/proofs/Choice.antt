-- The answer of an accepted event is the rules' choice over the state that it leaves, and no other: the scan finds the least open
-- job, and there is one only.
use Prim.Native.Nat.{ℕ, min, ◌<◌}
use mathlib.Core.Path.{◌≡◌, refl, sym, ap, subst, ◌∙◌}
use mathlib.Core.Bool.{Bool, true, false, cond}
use mathlib.Core.List.{[], ◌∷◌}
use mathlib.Core.Logic.{◌↔◌}
use native.Mathlib.Omega.{arith}
use lib.ListN.{length, get_or}
use Rattle.laws.specs.Said.{Said}
use Rattle.laws.proofs.Answers.{exactly}
use Rattle.laws.proofs.Tests.{true_not_false}
use Rattle.table_rules.proofs.Ruling.{fault_none}
use Rattle.event_reading.specs.declared.Event.{Event}
use Rattle.task_steps.specs.Opening.{no_record}
use Rattle.state_choice.specs.Best.{Best}
use Rattle.state_choice.specs.Choice.{best_to}
use Rattle.state_choice.specs.Least.{Least, NoneOpen}
use Rattle.state_choice.proofs.Least.{Found, some, nothing, best_is, least_exactly, least_one}
use Rattle.state_rules.specs.declared.State.{State}
use Rattle.state_rules.specs.State.{record_at}
use Rattle.state_rules.specs.Sound.{StateSound}
use Rattle.state_rules.specs.Choice.{chosen}
use Rattle.apply_events.specs.Answer.{Answer}
use Rattle.apply_events.specs.Answer.{Run, Idle, Refused}
use Rattle.apply_events.specs.Answers.{answer_said, refusal_of}
use Rattle.apply_events.specs.Apply.{told_of, answer_of, applied}
use Rattle.apply_events.specs.Choice.{Chooses, runs, idles}
use Rattle.apply_events.proofs.Kept.{applied_sound}
use Rattle.apply_events.proofs.Happened.{accepted_heard, answers_so}

-- ---- the answer that a sound state stands for

module _ (q : State) (sound : StateSound q) where
  -- D is at most T, and T at most 1,000,000
  small : (i : ℕ) → i < q.count → (get_or q.records i no_record).task.d < 4294967296
  small i h =
      let r = ((fault_none (record_at q i).task).0 (sound.each i h).ruled).0 in
      omega (arith, r.spaced, r.limit)

  said_is : (b : Best) → Found q.records q.count b → Chooses q (answer_said (told_of b (record_at q b.at).class))
  said_is b (some {p} f) = runs p ((least_exactly q.records q.count small p).0 f)
  said_is b (nothing f) = idles f

  said_only : (b : Best) → Found q.records q.count b → (a : Said ℕ) → Chooses q a → a ≡ answer_said (told_of b (record_at q b.at).class)
  said_only b (some {p} f) a (runs o g) =
      ap (λ (x : ℕ). record { number = 0; values = x ∷ (record_at q x).class ∷ [] })
      (least_one q.records q.count small o p g ((least_exactly q.records q.count small p).0 f))
  said_only b (some {p} f) a (idles n) = absurd (true_not_false (sym f.live ∙ n p f.below))
  said_only b (nothing n) a (runs o g) = absurd (true_not_false (sym g.live ∙ n o g.below))
  said_only b (nothing n) a (idles g) = refl

  found : Found q.records q.count (best_to q.records (min q.count 16))
  found =
      let m : min q.count 16 ≡ q.count = omega (arith, sound.counted.most) in
      subst (λ (n : ℕ). Found q.records q.count (best_to q.records n)) (sym m) (best_is q.records q.count)

  pub answer_exactly : (a : Said ℕ) → (answer_said (answer_of q) ≡ a) ↔ Chooses q a
  answer_exactly =
      exactly (Chooses q) (said_is (best_to q.records (min q.count 16)) found) (said_only (best_to q.records (min q.count 16)) found)

-- ---- the answer of an accepted event

-- how many values: two where a job runs, none else
abbrev sizes : Said ℕ → ℕ
sizes x = length x.values

module _ (s : State) (e : Event) where
  pub choice_exactly : refusal_of (applied s e).answer ≡ 0 → (a : Said ℕ) → (answer_said (applied s e).answer ≡ a) ↔ Chooses (applied s e).state a
  choice_exactly o a =
      rw (answers_so s e o) (answer_exactly (applied s e).state (applied_sound s (accepted_heard s e o).0.sound e) a)

  -- `Run p c` exactly when the job at p is the least open one and c is its class; `Idle` exactly when nothing is open
  module _ (o : refusal_of (applied s e).answer ≡ 0) where
    abbrev q : State
    q = (applied s e).state

    abbrev IsRun : ℕ → ℕ → Type 0
    IsRun p c = Least q.records q.count p × ((record_at q p).class ≡ c)

    run_told : (p c : ℕ) (a : Said ℕ) → Chooses q a → a ≡ answer_said (Run p c) → IsRun p c
    run_told p c a (runs k l) z =
        let y : k ≡ p = ap (λ (x : Said ℕ). get_or x.values 0 0) z in
        subst (λ (j : ℕ). IsRun j c) y (l, ap (λ (x : Said ℕ). get_or x.values 1 0) z)
    run_told p c a (idles n) z = let y : ◌≡◌ {A = ℕ} 0 2 = ap sizes z in absurd (omega (arith, y))

    is_run : (p c : ℕ) (a : Answer) → answer_said a ≡ answer_said (Run p c) → a ≡ Run p c
    is_run p c (Run k d) z =
        ap (λ (j : ℕ). Run j d) (ap (λ (x : Said ℕ). get_or x.values 0 0) z) ∙ ap (Run p) (ap (λ (x : Said ℕ). get_or x.values 1 0) z)
    is_run p c Idle z = let y : ◌≡◌ {A = ℕ} 0 2 = ap sizes z in absurd (omega (arith, y))
    is_run p c (Refused n) z = let y : ◌≡◌ {A = ℕ} 0 2 = ap sizes z in absurd (omega (arith, y))

    pub run_exactly : (p c : ℕ) → ((applied s e).answer ≡ Run p c) ↔ IsRun p c
    run_exactly p c = (
      λ z. run_told p c (answer_said (Run p c)) ((choice_exactly o (answer_said (Run p c))).0 (ap answer_said z)) refl,
      λ l.
          is_run p c (applied s e).answer
          ((choice_exactly o (answer_said (Run p c))).1 (subst (λ (k : ℕ). Chooses q (answer_said (Run p k))) l.1 (runs p l.0))),
    )

    idle_told : (a : Said ℕ) → Chooses q a → a ≡ answer_said Idle → NoneOpen q.records q.count
    idle_told a (runs p l) z = let y : ◌≡◌ {A = ℕ} 2 0 = ap sizes z in absurd (omega (arith, y))
    idle_told a (idles n) z = n

    is_idle : (p c : ℕ) (b : Bool) → answer_said (cond b (Run p c) Idle) ≡ answer_said Idle → cond b (Run p c) Idle ≡ Idle
    is_idle p c true z = let y : ◌≡◌ {A = ℕ} 2 0 = ap sizes z in absurd (omega (arith, y))
    is_idle p c false z = refl

    pub idle_exactly : ((applied s e).answer ≡ Idle) ↔ NoneOpen q.records q.count
    idle_exactly = (
      λ z. idle_told (answer_said Idle) ((choice_exactly o (answer_said Idle)).0 (ap answer_said z)) refl,
      λ n.
          rw (answers_so s e o)
          (is_idle (chosen q).at (record_at q (chosen q).at).class (chosen q).found
          (rw (answers_so s e o) at ((choice_exactly o (answer_said Idle)).1 (idles n)))),
    )
