-- Rules, "Window": the last K closed jobs as marks in a 64-bit word, and a count that 64 bits hold.
use Rattle.std.specs.Prelude.{ℕ, ◌+◌, ◌-◌, ◌*◌, ◌%◌, ◌^◌, min}

-- the marks that a word has room for
abbrev pub word_places : ℕ
word_places = 64

-- as far as 64 bits count
abbrev pub most_count : ℕ
most_count = 2 ^ 64 - 1

-- one more, as far as that
abbrev pub count_of : ℕ → ℕ
count_of n = min (n + 1) most_count

-- of K marks the oldest makes room
abbrev pub kept_of : ℕ → ℕ
kept_of k = min k word_places - 1

-- the marks once a job has closed: the newest in the lowest place, 1 for a miss
abbrev pub pushed : ℕ → ℕ → ℕ → ℕ
pushed k marks mark = marks % 2 ^ kept_of k * 2 + mark
