-- The event that a rule makes, and what rule 1 then keeps of each task at its position.
use Rattle.std.specs.Prelude.{ℕ, ◌+◌, ◌-◌, ◌*◌, ◌/◌, ◌%◌, cond, List, ◌==◌, nat_le, nat_lt, get_or, set}
use Rattle.event_reading.specs.declared.Event.{Event}
use Rattle.event_reading.specs.Event.{a_tick, a_release, a_completion}
use Rattle.bench_events.specs.declared.Kept.{Kept}
use Rattle.bench_events.specs.declared.Maker.{Maker}
use Rattle.bench_table.specs.Table.{count_of, spacing_of}
use Rattle.bench_events.specs.Maker.{plus}

abbrev pub tick_at : ℕ → Event
tick_at time = record { kind = a_tick; task = 0; job = 0; time = time }

abbrev pub release_at : ℕ → ℕ → Event
release_at i time = record { kind = a_release; task = i; job = 0; time = time }

abbrev pub completion_at : ℕ → ℕ → ℕ → Event
completion_at i job time = record { kind = a_completion; task = i; job = job; time = time }

-- ---- rule 1

abbrev pub seat_of : Maker → ℕ
seat_of k = k.x / 65536 % count_of k.tasks

-- before the first event of a task
abbrev pub none_kept : Kept
none_kept = record { due = 0; free = 0; jobs = 0 }

-- what is kept of the task whose event it is
abbrev pub kept_of : List Kept → Maker → Kept
kept_of l k = get_or l (seat_of k) none_kept

-- one of three: the open job is completed, a job is released, or there is a tick
abbrev pub of_three : {A : Type 0} → Kept → ℕ → A → A → A → A
of_three p time done opened none = cond (nat_le time p.due) done (cond (nat_le p.free time) opened none)

unfoldable pub chance_event : List Kept → Maker → Event
chance_event l k =
    of_three (kept_of l k) k.time (completion_at (seat_of k) (kept_of l k).jobs k.time) (release_at (seat_of k) k.time) (tick_at k.time)

-- after a completion nothing is due; after a release due and free are the deadline, and there is one job more
abbrev pub completed : Kept → Kept
completed p = record { due = 0; free = p.free; jobs = p.jobs }

abbrev pub released : Kept → ℕ → Kept
released p due = record { due = due; free = due; jobs = plus p.jobs 1 }

unfoldable pub chance_cells : List Kept → Maker → List Kept
chance_cells l k =
    of_three (kept_of l k) k.time (set l (seat_of k) (completed (kept_of l k)))
    (set l (seat_of k) (released (kept_of l k) (plus k.time (spacing_of k.tasks (seat_of k))))) l

-- ---- rules 2 and 3, by the number of events before

-- the tasks in turn, a release and its completion
unfoldable pub turn_event : Maker → ℕ → Event
turn_event k turn =
    cond (turn % 2 == 0) (release_at (turn / 2 % count_of k.tasks) k.time)
    (completion_at (turn / 2 % count_of k.tasks) (turn / 2 / count_of k.tasks + 1) k.time)

-- rounds of 32 ticks: n releases at the first tick, then n completions, two at a tick
abbrev pub round_of : ℕ → ℕ → ℕ
round_of n turn = turn / (2 * n)

abbrev pub in_round : ℕ → ℕ → ℕ
in_round n turn = turn % (2 * n)

abbrev pub once_by : ℕ → ℕ → ℕ → Event
once_by n round k = cond (nat_lt k n) (release_at k (32 * round)) (completion_at (k - n) (round + 1) (32 * round + (k - n) / 2))

unfoldable pub once_event : Maker → ℕ → Event
once_event k turn = once_by (count_of k.tasks) (round_of (count_of k.tasks) turn) (in_round (count_of k.tasks) turn)

-- ---- by the rule

unfoldable pub made_event : List Kept → Maker → ℕ → Event
made_event l k turn = cond (k.rule == 1) (chance_event l k) (cond (k.rule == 2) (turn_event k turn) (once_event k turn))

unfoldable pub made_cells : List Kept → Maker → ℕ → List Kept
made_cells l k turn = cond (k.rule == 1) (chance_cells l k) l
