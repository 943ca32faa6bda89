-- A run may be told oldest first: the tallies after the events of a log, and whether all that they add fits, are those of the same events newest first.
use mathlib.Core.Path.{◌≡◌, refl, sym, ap, ◌∙◌}
use mathlib.Core.Bool.{Bool, true, false, cond}
use mathlib.Core.List.{List, [], ◌∷◌, ◌++◌, reverse, reverse-cons, append_assoc, append-nil}
use Rattle.laws.proofs.Tests.{same_test}
use Rattle.event_reading.specs.declared.Event.{Event}
use Rattle.state_rules.specs.declared.State.{State}
use Rattle.apply_events.specs.Log.{state_after}
use Rattle.run_histories.specs.History.{run_state}
use Rattle.run_histories.proofs.InOrder.{onto, told_in_order}
use Rattle.tally_rules.specs.declared.Tallies.{Tallies}
use Rattle.tally_histories.specs.Events.{admits, tallies_after, all_admit}
use Rattle.tally_histories.proofs.Runs.{run_tallies, run_admits}

onto_is : (es past : List Event) → onto es past ≡ reverse es ++ past
onto_is [] past = refl
onto_is (e ∷ es) past = onto_is es (e ∷ past) ∙ sym (rw (reverse-cons e es) (append_assoc (reverse es) (e ∷ []) past))

onto_none : (es : List Event) → onto es [] ≡ reverse es
onto_none es = onto_is es [] ∙ append-nil (reverse es)

-- two tests after a third, one by one
pub cond_on : (a b c : Bool) → cond a (cond b c false) false ≡ cond (cond a b false) c false
cond_on true b c = refl
cond_on false b c = refl

module _ (s : State) (ts : Tallies) where
  tallies_onto : (es past : List Event) → tallies_after (run_state s past) (run_tallies s ts past) es ≡ run_tallies s ts (onto es past)
  unfolding run_state run_tallies tallies_after
  tallies_onto [] past = refl
  tallies_onto (e ∷ es) past = tallies_onto es (e ∷ past)

  admit_onto : (es past : List Event)
      → cond (run_admits s ts past) (all_admit (run_state s past) (run_tallies s ts past) es) false ≡ run_admits s ts (onto es past)
  unfolding run_state run_tallies run_admits all_admit
  admit_onto [] past = same_test (run_admits s ts past)
  admit_onto (e ∷ es) past =
      cond_on (run_admits s ts past) (admits (run_state s past) (run_tallies s ts past) e)
      (all_admit (run_state s (e ∷ past)) (run_tallies s ts (e ∷ past)) es)
      ∙ admit_onto es (e ∷ past)

  pub state_told : (es : List Event) → state_after s es ≡ run_state s (reverse es)
  unfolding run_state
  state_told es = told_in_order s es [] ∙ ap (run_state s) (onto_none es)

  pub tallies_told : (es : List Event) → tallies_after s ts es ≡ run_tallies s ts (reverse es)
  unfolding run_state run_tallies
  tallies_told es = tallies_onto es [] ∙ ap (run_tallies s ts) (onto_none es)

  pub admit_told : (es : List Event) → all_admit s ts es ≡ run_admits s ts (reverse es)
  unfolding run_state run_tallies run_admits
  admit_told es = admit_onto es [] ∙ ap (run_admits s ts) (onto_none es)
