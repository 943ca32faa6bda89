-- Fresh tallies of a sound state are what a report asks for: sound, with the tasks' D, and with all cells. By what each place holds.
use Prim.Native.Nat.{ℕ, ◌≤◌, ◌<◌}
use mathlib.Core.Path.{◌≡◌, ap}
use native.Mathlib.Nat.{le_refl}
use native.Mathlib.Omega.{arith}
use lib.ListN.{length, replicate, length-replicate}
use Rattle.laws.proofs.Stores.{filled_below}
use Rattle.table_rules.specs.Limits.{longest_t}
use Rattle.table_rules.proofs.Ruling.{fault_none}
use Rattle.state_rules.specs.declared.State.{State}
use Rattle.state_rules.specs.State.{record_at}
use Rattle.state_rules.specs.Sound.{StateSound}
use Rattle.tally_rules.specs.declared.Tally.{Tally}
use Rattle.tally_rules.specs.Tally.{no_tally, fresh_tally, tally_at}
use Rattle.tally_rules.proofs.Kept.{fresh_whole, fresh_sound}
use Rattle.tally_histories.specs.Sound.{deadline_at, fresh_tallies, AllWhole, Beside}

pub fresh_at : (s : State) (i : ℕ) → i < 16 → tally_at (fresh_tallies s) i ≡ fresh_tally (deadline_at s i)
unfolding fresh_tallies
fresh_at s i h =
    let n : 16 ≤ length (replicate 16 (fresh_tally 0)) = rw (length-replicate {A = Tally} 16 (fresh_tally 0)) (le_refl 16) in
    filled_below (λ (j : ℕ). fresh_tally (deadline_at s j)) (replicate 16 (fresh_tally 0)) no_tally 16 i n h

module _ (s : State) (g : StateSound s) where
  placed : (i : ℕ) → i < s.count → i < 16
  placed i h = omega (arith, g.counted.most)

  -- D of a sound state's task is that of a rule-abiding one
  pub deadline_some : (i : ℕ) → i < s.count → (1 ≤ deadline_at s i) × (deadline_at s i ≤ longest_t)
  deadline_some i h =
      let t = ((fault_none (record_at s i).task).0 (g.each i h).ruled).0 in
      (omega (arith, t.some, t.within), omega (arith, t.spaced, t.limit))

  pub fresh_beside : Beside s (fresh_tallies s)
  fresh_beside =
      record {
        sound = g;
        tallies = λ i h. let d = deadline_some i h in rw (fresh_at s i (placed i h)) (fresh_sound (deadline_at s i) d.0 d.1);
        carried = λ i h. ap (λ (t : Tally). t.d) (fresh_at s i (placed i h));
      }

  pub fresh_all_whole : AllWhole (fresh_tallies s) s.count
  fresh_all_whole i h = rw (fresh_at s i (placed i h)) (fresh_whole (deadline_at s i))
