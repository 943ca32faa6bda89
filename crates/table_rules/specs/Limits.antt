-- Rules, "The task table": the numbers that it sets, each named once.
use Rattle.std.specs.Prelude.{ℕ}

-- the most tasks of a table
abbrev pub most_tasks : ℕ
most_tasks = 16

-- the places of a table and of a state, with a task or without
abbrev pub place_count : ℕ
place_count = 16

-- the longest T, in ticks
abbrev pub longest_t : ℕ
longest_t = 1000000

-- the widest window, in jobs
abbrev pub widest_k : ℕ
widest_k = 64
