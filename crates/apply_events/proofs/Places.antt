-- What an event leaves at each position: step 1 on every task, the event's own step on its task alone, and nothing past the last task.
use Prim.Native.Nat.{ℕ, ◌≤◌, ◌<◌, ◌-◌}
use mathlib.Core.Path.{◌≡◌, sym, ap, subst, ◌∙◌}
use native.Mathlib.Decide.{ℕ_discrete, dec_lt}
use native.Mathlib.Omega.{arith}
use lib.ListN.{length, get_or, set, get_or-eq_default}
use lib.Seq.{get_or-set_same, get_or-set_other}
use Rattle.laws.proofs.Stores.{length_filled, filled_below, filled_past}
use Rattle.table_rules.specs.Rules.{task_fault, no_task}
use Rattle.task_records.specs.declared.Record.{Record}
use Rattle.task_steps.specs.Opening.{expired, no_record}
use Rattle.state_rules.specs.declared.State.{State}
use Rattle.state_rules.specs.State.{record_at}
use Rattle.state_rules.specs.Sound.{StateSound}
use Rattle.apply_events.specs.Steps.{expired_all}

-- a place past the row holds no task, so a sound state has a place for each task that it counts
no_task_lem : task_fault no_task ≡ 0 → ⊥
unfolding task_fault
no_task_lem e = omega (arith, e)

pub places : (s : State) → StateSound s → s.count ≤ length s.records
places s p = go (dec_lt (s.count - 1) (length s.records))
  where
    go : Dec (s.count - 1 < length s.records) → s.count ≤ length s.records
    go (yes q) = omega (arith, p.counted.one)
    go (no q) =
        let d : record_at s (s.count - 1) ≡ no_record = get_or-eq_default s.records no_record {n = s.count - 1} (omega arith) in
        absurd (no_task_lem (sym (ap (λ (r : Record). task_fault r.task) d) ∙ (p.each (s.count - 1) (omega (arith, p.counted.one))).ruled))

module _ (s : State) (t : ℕ) where
  abbrev step : ℕ → Record
  step i = expired (record_at s i) t

  pub expired-length : length (expired_all s t) ≡ length s.records
  expired-length = length_filled step s.records no_record s.count

  pub expired_at : s.count ≤ length s.records → (i : ℕ) → i < s.count → get_or (expired_all s t) i no_record ≡ expired (record_at s i) t
  expired_at h i l = filled_below step s.records no_record s.count i h l

  pub expired_past : (i : ℕ) → s.count ≤ i → get_or (expired_all s t) i no_record ≡ record_at s i
  expired_past i l = filled_past step s.records no_record s.count i l

  module _ (k : ℕ) (x : Record) where
    pub stored_here : s.count ≤ length s.records → k < s.count → get_or (set (expired_all s t) k x) k no_record ≡ x
    stored_here h l = get_or-set_same (expired_all s t) k x no_record (rw expired-length (omega arith))

    pub stored_other : (i : ℕ) → (i ≡ k → ⊥) → get_or (set (expired_all s t) k x) i no_record ≡ get_or (expired_all s t) i no_record
    stored_other i n = get_or-set_other (expired_all s t) k i x no_record n

    -- another task has step 1
    pub stored_else : s.count ≤ length s.records → (i : ℕ) → i < s.count → (i ≡ k → ⊥)
        → get_or (set (expired_all s t) k x) i no_record ≡ expired (record_at s i) t
    stored_else h i l n = stored_other i n ∙ expired_at h i l

    -- what the record at k has, and what step 1 leaves of every other task, each place has
    pub stored_place : (P : Record → Type 0) → s.count ≤ length s.records → k < s.count → (i : ℕ) → i < s.count
        → (i ≡ k → P x) → ((i ≡ k → ⊥) → P (expired (record_at s i) t)) → P (get_or (set (expired_all s t) k x) i no_record)
    stored_place P h b i l f g = go (ℕ_discrete i k)
      where
        go : Dec (i ≡ k) → P (get_or (set (expired_all s t) k x) i no_record)
        go (yes z) = subst P (sym (ap (λ (j : ℕ). get_or (set (expired_all s t) k x) j no_record) z ∙ stored_here h b)) (f z)
        go (no z) = subst P (sym (stored_else h i l z)) (g z)
