-- The events of a rule, by their numbers from 0.
use Rattle.std.specs.Prelude.{ℕ, zero, suc, List, replicate}
use Rattle.event_reading.specs.declared.Event.{Event}
use Rattle.table_rules.specs.Limits.{place_count}
use Rattle.bench_events.specs.declared.Kept.{Kept}
use Rattle.bench_events.specs.declared.Maker.{Maker}
use Rattle.bench_events.specs.Maker.{drawn_of}
use Rattle.bench_events.specs.Made.{none_kept, made_event, made_cells}

-- the numbers after so many events
unfoldable pub maker_at : Maker → ℕ → Maker
maker_at k zero = k
maker_at k (suc n) = drawn_of (maker_at k n)

-- the cells after so many events: at first nothing is kept
unfoldable pub cells_at : Maker → ℕ → List Kept
cells_at k zero = replicate place_count none_kept
cells_at k (suc n) = made_cells (cells_at k n) (maker_at k (suc n)) n

-- the event after so many others
unfoldable pub event_at : Maker → ℕ → Event
event_at k n = made_event (cells_at k n) (maker_at k (suc n)) n
