-- One chunk more: a report that goes on is the next chunk's, and one that has ended stays; each is a clause of the definition.
use Prim.Native.Nat.{ℕ, zero, suc, ◌+◌, ◌≤◌, min}
use mathlib.Core.Path.{◌≡◌, refl, sym, ◌∙◌}
use mathlib.Core.Bool.{true, false}
use mathlib.Core.List.{List}
use native.Mathlib.Nat.{le_refl}
use native.Mathlib.Decide.{dec_le}
use native.Mathlib.Numerals.{add-one}
use native.Mathlib.Omega.{arith}
use lib.ListN.{length, take}
use lib.Seq.{take_all}
use Rattle.std.specs.Prelude.{Result, Ok, Err}
use Rattle.std.specs.Result.{is_ok}
use Rattle.event_logs.specs.declared.Stop.{Stop}
use Rattle.event_logs.specs.Stops.{as_ending}
use Rattle.state_rules.specs.declared.State.{State}
use Rattle.tally_rules.specs.declared.Tallies.{Tallies}
use Rattle.tally_rules.specs.Answer.{Accepted}
use Rattle.tally_histories.specs.Answer.{Reported}
use Rattle.tally_histories.specs.Report.{reported}
use Rattle.bench_tally.specs.Chunks.{chunk_at, goes_on, chunks_reported}

pub goes_on_lem : (s : State) (ts : Tallies) (log : List ℕ) (n : ℕ) (r : Reported) → r ≡ chunks_reported s ts log n
    → goes_on r.answer r.ending ≡ true
    → reported r.state r.tallies (chunk_at log n) ≡ chunks_reported s ts log (n + 1)
unfolding chunks_reported
goes_on_lem s ts log n r e g = rw (add-one, sym e, g)

pub has_ended : (s : State) (ts : Tallies) (log : List ℕ) (n : ℕ) (r : Reported) → r ≡ chunks_reported s ts log n
    → goes_on r.answer r.ending ≡ false
    → r ≡ chunks_reported s ts log (n + 1)
unfolding chunks_reported
has_ended s ts log n r e g = rw (add-one, sym e, g)

-- and stays to the end
pub ended_stays : (s : State) (ts : Tallies) (log : List ℕ) (n m : ℕ) (r : Reported) → r ≡ chunks_reported s ts log n
    → goes_on r.answer r.ending ≡ false
    → r ≡ chunks_reported s ts log (m + n)
ended_stays s ts log n zero r e g = let q : 0 + n ≡ n = omega arith in rw q e
ended_stays s ts log n (suc m) r e g = let q : suc m + n ≡ m + n + 1 = omega arith in rw q (has_ended s ts log (m + n) r (ended_stays s ts log n m r e g) g)

-- a report goes on where its reading has come to the end
pub whole_goes_on : (e : Result Unit Stop) → goes_on Accepted (as_ending e) ≡ is_ok e
whole_goes_on (Ok u) = refl
whole_goes_on (Err r) = refl

-- what a chunk has is at most its size
pub front : (l : List ℕ) (n : ℕ) → take (min (length l) n) l ≡ take n l
front l n = go (dec_le n (length l))
  where
    go : Dec (n ≤ length l) → take (min (length l) n) l ≡ take n l
    go (yes h) = let e : min (length l) n ≡ n = omega arith in rw e
    go (no h) = let e : min (length l) n ≡ length l = omega arith in rw e (take_all (length l) l (le_refl (length l)) ∙ sym (take_all n l (omega arith)))
