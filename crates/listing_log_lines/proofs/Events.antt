-- The lines of a log, record by record: what is left of the log, listed from the state so far, completes what the whole log lists.
use Prim.Native.Nat.{ℕ, ◌+◌, ◌*◌}
use mathlib.Core.Path.{◌≡◌, refl, sym, ap, ◌∙◌}
use mathlib.Core.List.{List}
use native.Mathlib.Omega.{arith}
use lib.ListN.{drop}
use Rattle.text_writing.specs.declared.Sheet as D
use Rattle.text_writing.specs.Sheet.{Sheet, puts}
use Rattle.text_writing.specs.Puts.{as_sheet, Puts}
use Rattle.text_writing.proofs.Sheets.{puts_on}
use Rattle.event_reading.specs.declared.Event.{Event}
use Rattle.event_reading.specs.Reading.{Reading}
use Rattle.event_reading.specs.Reading as R
use Rattle.event_reading.specs.Record.{read_record}
use Rattle.event_logs.specs.Log.{events_of}
use Rattle.event_logs.specs.Ending.{ended_by, ending_of}
use Rattle.event_logs.proofs.Endings.{ending_none}
use Rattle.event_logs.proofs.Going.{Going, going_none, going_more, going_stop, going_ending}
use Rattle.state_rules.specs.declared.State.{State}
use Rattle.apply_events.specs.Apply.{applied}
use Rattle.listing_text.specs.EventLines.{event_line}
use Rattle.apply_events.specs.Log.{state_after}
use Rattle.listing_text.specs.LogLines.{event_lines}

-- what is held between two events: the lines so far, the state, and how many events were read
pub record Held : Type 0 where
  pub lines : Sheet
  pub state : State
  pub read : ℕ

abbrev pub held : D.Sheet → State → ℕ → Held
held out s i = record { lines = as_sheet out; state = s; read = i }

-- what events make of it: their lines behind those, and the state after them
abbrev pub listed : Held → List Event → Sheet × State
listed h es = (puts h.lines (event_lines (h.read + 1) h.state es), state_after h.state es)

-- at a place of the log, i events later, with the lines so far, in the same lent bytes, and the state so far
pub record Listing (o : D.Sheet) (s : State) (log : List ℕ) (out : D.Sheet) (q : State) (i from : ℕ) : Type 0 where
  pub same : out.out.ghost_name ≡ o.out.ghost_name
  pub going : Going listed (held o s 0) log 0 (held out q i) from
  pub turns : from ≡ 20 * i

pub listing_none : (o : D.Sheet) (s : State) (log : List ℕ) → Listing o s log o s 0 0
listing_none o s log = record { same = refl; going = going_none listed (held o s 0) log 0 (omega arith); turns = refl }

module _ (o : D.Sheet) (s : State) (log : List ℕ) (out : D.Sheet) (q : State) (i from : ℕ) (g : Listing o s log out q i from) where
  pub listing_more : (e : Event) (out' : D.Sheet) → read_record (drop from log) ≡ R.Event e
      → Puts out out' (event_line (i + 1) (applied q e).answer)
      → Listing o s log out' (applied q e).state (i + 1) (from + 20)
  unfolding event_lines state_after
  listing_more e out' r p =
      record {
        same = p.same ∙ g.same;
        going =
            going_more listed (held o s 0) log 0 (held out q i) from g.going e (held out' (applied q e).state (i + 1)) r
            (λ es. rw (p.put, puts_on (as_sheet out)));
        turns = omega (arith, g.turns);
      }

  pub listing_stop : (r : Reading) → r ≡ read_record (drop from log) → ((e : Event) → r ≡ R.Event e → ⊥)
      → (Puts o out (event_lines 1 s (events_of log)))
      × ((q ≡ state_after s (events_of log)) × (ended_by r from ≡ ending_of log))
  unfolding event_lines state_after puts
  listing_stop r e f =
      let k : (x : Event) → read_record (drop from log) ≡ R.Event x → ⊥ = λ x z. f x (e ∙ z) in
      let t = going_stop listed (held o s 0) log 0 (held out q i) from g.going k in
      let d = going_ending listed (held o s 0) log 0 (held out q i) from g.going k in (
        record { same = g.same; put = sym (ap (λ (x : Sheet × State). x.0) t) },
        (sym (ap (λ (x : Sheet × State). x.1) t), rw e (sym d ∙ ending_none log)),
      )
