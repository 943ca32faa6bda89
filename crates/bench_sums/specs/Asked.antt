-- What is answered of a rule: its events alone, and a run of them from the fresh state of the bench's table.
use Rattle.std.specs.Prelude.{ℕ, cond}
use Rattle.state_rules.specs.declared.State.{State}
use Rattle.state_rules.specs.State.{started}
use Rattle.bench_table.specs.Table.{table_of}
use Rattle.bench_events.specs.declared.Maker.{Maker}
use Rattle.bench_events.specs.Maker.{served, events_of, first_of}
use Rattle.bench_sums.specs.Runs.{event_sum, run_sum}

-- 0 where tasks or rule are none of the bench's
abbrev pub rule_asked : ℕ → ℕ → ℕ → ℕ → ℕ
rule_asked n rule count seed = cond (served n rule) (event_sum (first_of n rule seed) (events_of count)) 0

-- the fresh state of the bench's table
abbrev pub begun : Maker → State
begun k = (started (table_of k.tasks)).state

-- both engines answer this
abbrev pub run_asked : ℕ → ℕ → ℕ → ℕ → ℕ
run_asked n rule count seed = cond (served n rule) (run_sum (begun (first_of n rule seed)) (first_of n rule seed) (events_of count)) 0
