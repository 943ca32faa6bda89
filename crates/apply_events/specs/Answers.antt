-- The rules' number and values for each case of an event's answer.
use Rattle.std.specs.Prelude.{ℕ, [], ◌∷◌}
use Rattle.laws.specs.Said.{Said}
use Rattle.apply_events.specs.Answer.{Answer}
use Rattle.apply_events.specs.Answer.{Run, Idle, Refused}

-- the chosen position and that job's class, if there is one
abbrev pub answer_said : Answer → Said ℕ
answer_said (Run p c) = record { number = 0; values = p ∷ c ∷ [] }
answer_said Idle = record { number = 0; values = [] }
answer_said (Refused n) = record { number = n; values = [] }

abbrev pub refusal_of : Answer → ℕ
refusal_of a = (answer_said a).number
