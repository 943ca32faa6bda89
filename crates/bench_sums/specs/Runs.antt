-- What a run of the bench comes to: the events of the rule alone, and `applied` over them.
use Rattle.std.specs.Prelude.{ℕ, zero, suc, min}
use Rattle.state_rules.specs.declared.State.{State}
use Rattle.apply_events.specs.Apply.{applied}
use Rattle.bench_events.specs.declared.Maker.{Maker}
use Rattle.bench_events.specs.Events.{event_at}
use Rattle.bench_sums.specs.Folds.{folded, event_code, answer_code, records_folded}

-- the first n events
unfoldable pub event_sum : Maker → ℕ → ℕ
event_sum k zero = 0
event_sum k (suc n) = folded (event_sum k n) (event_code (event_at k n))

-- the state that n events leave
unfoldable pub state_at : State → Maker → ℕ → State
state_at s k zero = s
state_at s k (suc n) = (applied (state_at s k n) (event_at k n)).state

-- their answers
unfoldable pub answer_sum : State → Maker → ℕ → ℕ
answer_sum s k zero = 0
answer_sum s k (suc n) = folded (answer_sum s k n) (answer_code (applied (state_at s k n) (event_at k n)).answer)

-- a state's tasks behind a sum
abbrev pub state_folded : ℕ → State → ℕ
state_folded sum s = records_folded sum s.records (min s.count 16)

-- their answers, and then what each task has counted
abbrev pub run_sum : State → Maker → ℕ → ℕ
run_sum s k n = state_folded (answer_sum s k n) (state_at s k n)
