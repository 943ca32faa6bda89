-- A report that goes over its log chunk by chunk, as the program does: state and tallies are carried on.
use Rattle.std.specs.Prelude.{ℕ, zero, suc, ◌+◌, ◌*◌, ◌/◌, Bool, true, false, cond, List, length, take, drop}
use Rattle.event_logs.specs.Stops.{Ending}
use Rattle.event_logs.specs.Stops as E
use Rattle.state_rules.specs.declared.State.{State}
use Rattle.tally_rules.specs.declared.Tallies.{Tallies}
use Rattle.tally_rules.specs.Answer.{Answer}
use Rattle.tally_rules.specs.Answer as A
use Rattle.tally_histories.specs.Answer.{Reported}
use Rattle.tally_histories.specs.Report.{reported}

-- 3,276 records
abbrev pub chunk_size : ℕ
chunk_size = 65520

-- nothing past the log's end
abbrev pub chunk_at : List ℕ → ℕ → List ℕ
chunk_at log i = take chunk_size (drop (chunk_size * i) log)

-- the last one is not full, and may be empty
abbrev pub chunk_count : List ℕ → ℕ
chunk_count log = length log / chunk_size + 1

-- nothing was refused, and all of the chunk was read
abbrev pub goes_on : Answer → Ending → Bool
goes_on (A.Refused n) e = false
goes_on A.Accepted E.Whole = true
goes_on A.Accepted (E.Stopped n o) = false

abbrev pub before : State → Tallies → Reported
before s ts = record { answer = A.Accepted; state = s; tallies = ts; ending = E.Whole }

-- the report after the first n chunks: what ends one ends the whole
unfoldable pub chunks_reported : State → Tallies → List ℕ → ℕ → Reported
chunks_reported s ts log zero = before s ts
chunks_reported s ts log (suc n) =
    let r = chunks_reported s ts log n in
    cond (goes_on r.answer r.ending) (reported r.state r.tallies (chunk_at log n)) r
