-- The bound, the state at the end, the stop and the one line of a refused input are what the crates below define: by the tests of the listing.
use Prim.Native.Nat.{ℕ, ◌*◌, ◌≤◌, ◌<◌}
use mathlib.Core.Path.{◌≡◌, ◌∙◌}
use mathlib.Core.Bool.{true, false}
use mathlib.Core.List.{List, []}
use borrow.Author.Tests.{lt-ltb, le-ltb}
use lib.ListN.{length, drop}
use Rattle.table_rules.specs.Answers.{Accepted, Refused}
use Rattle.table_rules.specs.declared.Table.{Table}
use Rattle.table_rules.specs.Judging.{judged}
use Rattle.table_reading.specs.Table.{read_table}
use Rattle.std.specs.Prelude.{Some, None}
use Rattle.bound_search.specs.Bound.{IsBound, NoBound, bound_of}
use Rattle.bound_search.proofs.Meets.{bound_is, bound_none}
use Rattle.bound_one.specs.Asked.{or_thirteen, one_answer}
use Rattle.event_reading.specs.declared.Event.{Event}
use Rattle.event_reading.specs.Reading as R
use Rattle.event_reading.specs.Record.{read_record}
use Rattle.event_logs.specs.Log.{readable}
use Rattle.event_logs.proofs.Rests.{rest_end}
use Rattle.state_rules.specs.declared.State.{State}
use Rattle.apply_events.specs.Log.{standing, ran_over, state_after}
use Rattle.apply_events.proofs.Runs.{ran_by}
use Rattle.listing_text.specs.Fields.{field_of}
use Rattle.listing_text.specs.Words.{bound_word, no_bound_word}
use Rattle.listing_text.specs.TaskLines.{bound_text}
use Rattle.listing_text.specs.RefusalLines.{too_long, refused_line, stop_line}
use Rattle.listing_text.specs.LogLines.{stop_text}
use Rattle.listing_text.specs.Listing.{table_there, table_bytes, event_bytes, table_listing, listed, listing_of}

-- ---- bound or `-`

module _ (t : Table) (good : judged t ≡ Accepted) (i : ℕ) (h : i < t.count) where
  shown : bound_text (one_answer t i) ≡ bound_text (or_thirteen (bound_of t i) i)
  unfolding one_answer
  shown = rw (good, lt-ltb i t.count h)

  pub bound_shown : (r : ℕ) → IsBound t i r → bound_text (one_answer t i) ≡ field_of bound_word r
  bound_shown r b =
      let e : bound_of t i ≡ Some r = (bound_is t i r).1 b in
      shown ∙ rw e

  pub dash_shown : NoBound t i → bound_text (one_answer t i) ≡ no_bound_word
  dash_shown b =
      let e : bound_of t i ≡ None = (bound_none t i).1 b in
      shown ∙ rw e

-- ---- the state at the end is the one that applying the log gives

pub state_ran : (s : State) (es : List Event) → state_after s es ≡ (ran_over (standing s) es).state
state_ran s es = ran_by (standing s) es

-- ---- `stop N at O`

-- no line at a clean end
pub stop_none : (log : List ℕ) → 20 * readable log ≡ length log → stop_text log ≡ []
unfolding stop_text
stop_none log e = rw ((rest_end log).1 e)

-- a record that does not read gives its number, and the offset is that of its first byte
pub stop_some : (log : List ℕ) (n : ℕ) → read_record (drop (20 * readable log) log) ≡ R.Refused n → stop_text log ≡ stop_line n (20 * readable log)
unfolding stop_text
stop_some log n e = rw e

-- ---- the whole

pub too_long_only : (s : List ℕ) → 65536 < length s → listing_of s ≡ too_long
unfolding listing_of
too_long_only s h = rw (lt-ltb 65536 (length s) h)

module _ (s : List ℕ) (h : length s ≤ 65536) where
  -- missing or short table bytes, or n outside 1 to 16, are refusal 1
  pub table_missing : table_there s ≡ false → listing_of s ≡ refused_line 1 0
  unfolding listing_of
  table_missing e = rw (le-ltb 65536 (length s) h, e)

  pub table_refused : (n p : ℕ) → table_there s ≡ true → (read_table (table_bytes s)).answer ≡ Refused n p → listing_of s ≡ refused_line n p
  unfolding listing_of listed
  table_refused n p e q = rw (le-ltb 65536 (length s) h, e, q)

  pub table_listed : table_there s ≡ true → (read_table (table_bytes s)).answer ≡ Accepted
      → listing_of s ≡ table_listing (read_table (table_bytes s)).table (event_bytes s)
  unfolding listing_of listed
  table_listed e q = rw (le-ltb 65536 (length s) h, e, q)
