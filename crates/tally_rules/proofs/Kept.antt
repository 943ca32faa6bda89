-- A response that fits leaves a sound tally sound, and a fresh tally is sound: clause by clause.
use Prim.Native.Nat.{ℕ, ◌+◌, ◌≤◌, ◌<◌}
use mathlib.Core.Path.{◌≡◌, refl, ap, ◌∙◌}
use mathlib.Core.Bool.{true}
use native.Mathlib.Omega.{arith}
use lib.ListN.{length-replicate, get_or-replicate}
use Rattle.std.specs.Prelude.{Option, None, Some}
use Rattle.laws.proofs.Sums.{total_zero}
use Rattle.table_rules.specs.Limits.{longest_t}
use Rattle.tally_rules.specs.declared.Span.{Span}
use Rattle.tally_rules.specs.declared.Tally.{Tally}
use Rattle.tally_rules.specs.Tally.{cell_count, cell_at, fresh_tally, widened, taken}
use Rattle.tally_rules.specs.Sound.{Spans, none, some, TallySound}
use Rattle.tally_rules.specs.Adding.{fits}
use Rattle.tally_rules.specs.Responses.{Whole, Within}
use Rattle.tally_rules.proofs.Taking.{taken-total}
use Rattle.tally_rules.proofs.Fitting.{fits-room, fits_within}

-- a sound tally is within the limits
pub sound_within : (t : Tally) → TallySound t → Within t
sound_within t s = record { sum = s.sum; cells = s.cells }

span-widened : (d met sum r : ℕ) (s : Option Span) → r ≤ d → Spans d met sum s → Spans d (met + 1) (sum + r) (widened s r)
span-widened d met sum r None h (none p q) = some (omega arith) (omega arith) h
span-widened d met sum r (Some s) h (some p q m) =
    some (omega arith) (omega arith) (omega arith)

pub taken_sound : (t : Tally) (r : ℕ) → Whole t → TallySound t → fits t r ≡ true → TallySound (taken t r)
unfolding taken
taken_sound t r w s e =
    let m = fits-room t r e in
    let i = fits_within t r w (sound_within t s) e in
    record {
      some = s.some;
      limit = s.limit;
      sum = i.sum;
      span = span-widened t.d t.met t.sum r t.span m.within s.span;
      cells = i.cells;
      met = taken-total t r w m.within ∙ ap (λ (n : ℕ). n + 1) s.met;
    }

module _ (d : ℕ) where
  pub fresh_whole : Whole (fresh_tally d)
  fresh_whole = length-replicate {A = ℕ} cell_count 0

  pub fresh_cell : (c : ℕ) → c < cell_count → cell_at (fresh_tally d) c ≡ 0
  fresh_cell c h = get_or-replicate cell_count c 0 0 h

  pub fresh_sound : 1 ≤ d → d ≤ longest_t → TallySound (fresh_tally d)
  fresh_sound p q =
      record {
        some = p;
        limit = q;
        sum = omega arith;
        span = none refl refl;
        cells = λ c h. omega (arith, fresh_cell c h);
        met = total_zero (cell_at (fresh_tally d)) cell_count fresh_cell;
      }
