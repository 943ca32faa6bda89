-- Rules, "Order of refusals": the number of each refusal, and that of an answer that may be one.
use Rattle.std.specs.Prelude.{ℕ, Result, Ok, Err}
use Rattle.refusals.specs.declared.Refusal.{Refusal}
use Rattle.refusals.specs.declared.Refusal.TheVariants as R

abbrev pub number_of : Refusal → ℕ
number_of R.TaskCount = 1
number_of R.TaskMark = 2
number_of R.TaskTimes = 3
number_of R.TaskMisses = 4
number_of R.EventSize = 5
number_of R.EventMark = 6
number_of R.EventKind = 7
number_of R.EventFields = 8
number_of R.EventTime = 9
number_of R.NoTask = 10
number_of R.TooSoon = 11
number_of R.NotOpen = 12
number_of R.NoBound = 13
number_of R.NoRoom = 14
number_of R.NotSound = 15
number_of R.NoFit = 16

-- 0 where nothing is refused: no refusal has that number
abbrev pub fault_in : {A : Type 0} → Result A Refusal → ℕ
fault_in (Ok x) = 0
fault_in (Err r) = number_of r
