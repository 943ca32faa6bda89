-- Rules, "Tally": two tallies joined; 15, then 16, and then the tally of both.
use Rattle.std.specs.Prelude.{Option, None, Some, ℕ, zero, suc, ◌+◌, ◌≤◌, ◌<◌, min, max, ◌≡◌, Bool, true, false, cond, ◌⊎◌, [], ◌∷◌, leb, eqb}
use Rattle.laws.specs.Stores.{filled}
use Rattle.laws.specs.Tests.{all_of}
use Rattle.tally_rules.specs.declared.Span.{Span}
use Rattle.tally_rules.specs.declared.Tally.{Tally}
use Rattle.tally_rules.specs.Answer.{Tallied}
use Rattle.tally_rules.specs.Tally.{between, cell_count, most_tallied, cell_at}
use Rattle.tally_rules.specs.Sound.{TallySound, tally_holds}
use Rattle.tally_rules.specs.Adding.{kept, accepted}

-- the least and the most of both; what is absent adds nothing
abbrev pub wider : Option Span → Option Span → Option Span
wider None s = s
wider (Some s) None = Some s
wider (Some s) (Some t) = between (min s.least t.least) (max s.most t.most)

-- what a cell comes to
abbrev pub joint_at : Tally → Tally → ℕ → ℕ
joint_at a b c = cell_at a c + cell_at b c

-- the tally of both once the first n cells are added up
abbrev pub both_to : Tally → Tally → ℕ → Tally
both_to a b n =
    record {
      d = a.d;
      cells = filled (joint_at a b) n a.cells;
      met = a.met + b.met;
      span = wider a.span b.span;
      sum = a.sum + b.sum;
    }

unfoldable pub both : Tally → Tally → Tally
both a b = both_to a b cell_count

-- none of the first n cells passes the limit
unfoldable pub sums_within : Tally → Tally → ℕ → Bool
sums_within a b zero = true
sums_within a b (suc n) = cond (sums_within a b n) (leb (joint_at a b n) most_tallied) false

-- one D, and neither the sum nor a cell passes the limit
abbrev pub joins : Tally → Tally → Bool
joins a b = all_of (eqb a.d b.d ∷ leb (a.sum + b.sum) most_tallied ∷ sums_within a b cell_count ∷ [])

-- 16 where they do not join; the first tally is the one that stays
abbrev pub joined_sound : Tally → Tally → Tallied
joined_sound a b = cond (joins a b) (accepted (both a b)) (kept a 16)

-- 15 before all, of either
unfoldable pub joined : Tally → Tally → Tallied
joined a b = cond (tally_holds a) (cond (tally_holds b) (joined_sound a b) (kept a 15)) (kept a 15)

-- two tallies do not join: D differs, or the sum or a cell passes the limit
abbrev pub Passes : Tally → Tally → Type 0
Passes a b = (a.d ≡ b.d → ⊥) ⊎ ((most_tallied < a.sum + b.sum) ⊎ ((c : ℕ) × (c < cell_count) × (most_tallied < joint_at a b c)))

-- the same, rule by rule: `joining_exactly` shows that it is `joined`
pub data Joins (a b : Tally) : Tallied → Type 0 where
  unsound : (TallySound a → TallySound b → ⊥) → Joins a b (kept a 15)
  refused : TallySound a → TallySound b → Passes a b → Joins a b (kept a 16)
  together : TallySound a → TallySound b → a.d ≡ b.d → a.sum + b.sum ≤ most_tallied → ((c : ℕ) → c < cell_count → joint_at a b c ≤ most_tallied)
      → Joins a b (accepted (both a b))
