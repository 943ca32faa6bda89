-- What a rule keeps in numbers: at first, and before each event. Sums are of 64 bits.
use Rattle.std.specs.Prelude.{ℕ, ◌+◌, ◌*◌, ◌/◌, ◌%◌, ◌^◌, min, Bool, cond, [], ◌∷◌, ◌==◌, nat_le}
use Rattle.laws.specs.Tests.{all_of}
use Rattle.bench_events.specs.declared.Maker.{Maker}
use Rattle.bench_table.specs.Table.{count_of}

-- 1 to 16 tasks and rule 1 to 3
abbrev pub served : ℕ → ℕ → Bool
served n rule = all_of (nat_le 1 n ∷ nat_le n 16 ∷ nat_le 1 rule ∷ nat_le rule 3 ∷ [])

-- a count of events is cut at 10^9
abbrev pub events_of : ℕ → ℕ
events_of count = min count 1000000000

abbrev pub narrow_of : ℕ → ℕ
narrow_of x = min x 4294967295

abbrev pub first_of : ℕ → ℕ → ℕ → Maker
first_of n rule seed =
    record { tasks = count_of (narrow_of n); rule = narrow_of rule; spread = 16 / count_of (narrow_of n); x = seed % 2147483648; time = 0 }

abbrev pub plus : ℕ → ℕ → ℕ
plus a b = (a + b) % 2 ^ 64

abbrev pub chance_after : ℕ → ℕ
chance_after x = (1103515245 * x + 12345) % 2147483648

-- with another time, and with another number of chance too
abbrev pub timed : Maker → ℕ → ℕ → Maker
timed k x time = record { tasks = k.tasks; rule = k.rule; spread = k.spread; x = x; time = time }

-- rule 1: chance goes on, and the time by 0 to 3 spreads; rule 2: the time by one spread; rule 3 keeps both
unfoldable pub drawn_of : Maker → Maker
drawn_of k =
    cond (k.rule == 1) (timed k (chance_after k.x) (plus k.time (chance_after k.x / 4096 % 4 * k.spread)))
    (cond (k.rule == 2) (timed k k.x (plus k.time k.spread)) k)
