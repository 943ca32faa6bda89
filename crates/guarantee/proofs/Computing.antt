-- One name for every definition by which a run is computed: a proof that unfolds it unfolds them all.
use Rattle.laws.specs.Sums.{total}
use Rattle.apply_events.proofs.Computing.{event_computes}
use Rattle.run_histories.specs.History.{run_state, jobs_of}
use Rattle.guarantee.specs.ChosenTime.{stands_at, chosen_time}
use Rattle.guarantee.proofs.Trying.{short_to, obeys_at}

-- its state, its closed jobs, chosen time and whether it obeys the premise, where state and events are written out
unfoldable pub run_computes : Unit {0}
unfolding obeys_at short_to chosen_time stands_at run_state jobs_of total event_computes
run_computes = tt
