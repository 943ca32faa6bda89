-- Rules, "Tally": adding one response; 15, then 16, and then the tally with it.
use Rattle.std.specs.Prelude.{ℕ, ◌+◌, ◌≤◌, ◌<◌, Bool, cond, ◌⊎◌, [], ◌∷◌, leb, ltb}
use Rattle.laws.specs.Tests.{all_of}
use Rattle.tally_rules.specs.declared.Tally.{Tally}
use Rattle.tally_rules.specs.Tally.{most_tallied, cell_of, cell_at, taken}
use Rattle.tally_rules.specs.Sound.{TallySound, tally_holds}
use Rattle.tally_rules.specs.Answer.{Accepted, Refused, Tallied}

-- the tally as given
abbrev pub kept : Tally → ℕ → Tallied
kept t n = record { answer = Refused n; tally = t }

abbrev pub accepted : Tally → Tallied
accepted t = record { answer = Accepted; tally = t }

-- r is not above D, and neither its cell nor the sum passes the limit
abbrev pub fits : Tally → ℕ → Bool
fits t r = all_of (leb r t.d ∷ ltb (cell_at t (cell_of t.d r)) most_tallied ∷ leb (t.sum + r) most_tallied ∷ [])

-- 16 where the response does not fit
abbrev pub put_in : Tally → ℕ → Tallied
put_in t r = cond (fits t r) (accepted (taken t r)) (kept t 16)

-- 15 before all
unfoldable pub added : Tally → ℕ → Tallied
added t r = cond (tally_holds t) (put_in t r) (kept t 15)

-- the same, rule by rule: `adding_exactly` shows that it is `added`
pub data Adds (t : Tally) (r : ℕ) : Tallied → Type 0 where
  unsound : (TallySound t → ⊥) → Adds t r (kept t 15)
  refused : TallySound t → (t.d < r) ⊎ ((most_tallied < cell_at t (cell_of t.d r) + 1) ⊎ (most_tallied < t.sum + r)) → Adds t r (kept t 16)
  takes : TallySound t → r ≤ t.d → cell_at t (cell_of t.d r) + 1 ≤ most_tallied → t.sum + r ≤ most_tallied → Adds t r (accepted (taken t r))
