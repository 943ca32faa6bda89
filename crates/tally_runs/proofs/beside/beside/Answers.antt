-- `beside::beside` meets its contract, by the same tests.
use mathlib.Core.Path.{sym, ◌∙◌}
use Rattle.state_rules.proofs.Sounding.{state_tells}
use Rattle.tally_histories.specs.Report.{fault_beside}
use Rattle.tally_runs.proofs.beside.beside.Goals.{then-not-is_sound-via-then-not-is_sound, then-not-is_sound-via-else-not-is_sound+then-not-tallies_hold}
use Rattle.tally_runs.proofs.beside.beside.Goals as goal

pub tallies_hold-requires : goal.tallies_hold-requires
tallies_hold-requires c = ((state_tells c.args.state).holds (sym c.is_sound.ensures ∙ c.if-not-is_sound.false)).counted.most

pub returns-then-not-is_sound : goal.returns-then-not-is_sound
unfolding fault_beside
returns-then-not-is_sound c =
    elim c.then-not-is_sound.branch [
      | then-not-is_sound-via-then-not-is_sound w ↦ rw (sym c.is_sound.ensures ∙ w.if-not-is_sound.true)
      | then-not-is_sound-via-else-not-is_sound+then-not-tallies_hold w ↦ rw (
        sym c.is_sound.ensures ∙ w.if-not-is_sound.false,
        sym w.tallies_hold.ensures ∙ w.if-not-tallies_hold.true,
      )
    ]

pub carried-requires : goal.carried-requires
carried-requires c = ((state_tells c.args.state).holds (sym c.is_sound.ensures ∙ c.if-not-is_sound.false)).counted.most

pub returns-then-not-carried : goal.returns-then-not-carried
unfolding fault_beside
returns-then-not-carried c =
    rw (
      sym c.is_sound.ensures ∙ c.if-not-is_sound.false,
      sym c.tallies_hold.ensures ∙ c.if-not-tallies_hold.false,
      sym c.carried.ensures ∙ c.if-not-carried.true,
    )

pub returns : goal.returns
unfolding fault_beside
returns c =
    rw (
      sym c.is_sound.ensures ∙ c.if-not-is_sound.false,
      sym c.tallies_hold.ensures ∙ c.if-not-tallies_hold.false,
      sym c.carried.ensures ∙ c.if-not-carried.false,
    )
