-- What is answered of bytes: a log, all bounds, a listing.
use Rattle.std.specs.Prelude.{ℕ, zero, suc, ◌+◌, min, List}
use Rattle.table_rules.specs.declared.Table.{Table}
use Rattle.table_rules.specs.Answers.{Answer}
use Rattle.table_rules.specs.Answers as T
use Rattle.table_reading.specs.Table.{read_table}
use Rattle.state_rules.specs.State.{started}
use Rattle.apply_events.specs.Answer.{Ran}
use Rattle.apply_events.specs.Log.{ran}
use Rattle.bound_one.specs.Answers.{bound_value}
use Rattle.bound_one.specs.Asked.{one_answer}
use Rattle.listing_of_input.specs.Answer.{Listing}
use Rattle.listing_of_input.specs.Answer as L
use Rattle.bench_sums.specs.Folds.{span, folded, answer_code}
use Rattle.bench_sums.specs.Runs.{state_folded}

-- the last answer and then what each task has counted
abbrev pub ran_folded : Ran → ℕ
ran_folded r = state_folded (folded 0 (answer_code r.answer)) r.state

-- a refused table is told by its number alone
abbrev pub or_refused : Answer → ℕ → ℕ
or_refused T.Accepted x = x
or_refused (T.Refused n p) x = 2048 + n

abbrev pub log_asked : List ℕ → List ℕ → ℕ
log_asked table log = or_refused (read_table table).answer (ran_folded (ran (started (read_table table).table).state log))

-- the bounds of the first n tasks by position, 0 where there is none
unfoldable pub bound_sum : Table → ℕ → ℕ
bound_sum t zero = 0
bound_sum t (suc n) = folded (bound_sum t n) (bound_value (one_answer t n))

abbrev pub bounds_asked : List ℕ → ℕ
bounds_asked table = bound_sum (read_table table).table (min (read_table table).table.count 16)

-- how many bytes the listing has, 2^40 where it is refused
abbrev pub list_number : Listing → ℕ
list_number (L.Text n) = n
list_number (L.Refused n) = span
