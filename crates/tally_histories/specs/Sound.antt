-- Rules, "Tally", beside a state: the tallies of its tasks are sound, and each carries its task's D.
use Rattle.std.specs.Prelude.{ℕ, zero, suc, ◌<◌, ◌≡◌, Bool, true, false, cond, eqb, replicate}
use Rattle.laws.specs.Stores.{filled}
use Rattle.table_rules.specs.Limits.{place_count}
use Rattle.state_rules.specs.declared.State.{State}
use Rattle.state_rules.specs.State.{record_at}
use Rattle.state_rules.specs.Sound.{StateSound}
use Rattle.tally_rules.specs.declared.Tallies.{Tallies}
use Rattle.tally_rules.specs.Tally.{fresh_tally, tally_at}
use Rattle.tally_rules.specs.Sound.{TallySound, tally_holds}
use Rattle.tally_rules.specs.Responses.{Whole}

-- D of a state's task at a position
abbrev pub deadline_at : State → ℕ → ℕ
deadline_at s i = (record_at s i).task.d

-- while nothing was met, each with the D of its place
unfoldable pub fresh_tallies : State → Tallies
fresh_tallies s = record { row = filled (λ i. fresh_tally (deadline_at s i)) place_count (replicate place_count (fresh_tally 0)) }

-- the tallies of the first n tasks are sound
abbrev pub TalliesSound : Tallies → ℕ → Type 0
TalliesSound ts n = (i : ℕ) → i < n → TallySound (tally_at ts i)

-- all their cells are there: so it is of all tallies that code holds
abbrev pub AllWhole : Tallies → ℕ → Type 0
AllWhole ts n = (i : ℕ) → i < n → Whole (tally_at ts i)

-- they carry their tasks' D
abbrev pub Carried : State → Tallies → ℕ → Type 0
Carried s ts n = (i : ℕ) → i < n → (tally_at ts i).d ≡ deadline_at s i

-- what is asked before anything is read
pub record Beside (s : State) (ts : Tallies) : Type 0 where
  pub sound : StateSound s
  pub tallies : TalliesSound ts s.count
  pub carried : Carried s ts s.count

-- the same as tests: f holds at the first n places
unfoldable pub all_below : (ℕ → Bool) → ℕ → Bool
all_below f zero = true
all_below f (suc n) = cond (all_below f n) (f n) false

abbrev pub tallies_hold : Tallies → ℕ → Bool
tallies_hold ts n = all_below (λ i. tally_holds (tally_at ts i)) n

abbrev pub carried_by : State → Tallies → ℕ → Bool
carried_by s ts n = all_below (λ i. eqb (tally_at ts i).d (deadline_at s i)) n
