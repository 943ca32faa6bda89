-- One name for every definition by which the reading of a log is computed: a proof that unfolds it unfolds them all.
use Rattle.event_reading.proofs.Computing.{record_computes}
use Rattle.event_logs.specs.Log.{readable_in, readable, events_in}

-- `events_of` of bytes that are written out
unfoldable pub log_computes : Unit {0}
unfolding readable_in readable events_in record_computes
log_computes = tt
