-- One name for every definition by which the reading of a record is computed: a proof that unfolds it unfolds them all.
use Rattle.number_reading.specs.Words.{number}
use Rattle.event_reading.specs.Event.{zeroes, fault_of}
use Rattle.event_reading.specs.Record.{marks, read_record}

-- `read_record` of bytes that are written out
unfoldable pub record_computes : Unit {0}
unfolding read_record marks number fault_of zeroes
record_computes = tt
