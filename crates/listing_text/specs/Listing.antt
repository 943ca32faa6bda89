-- Rules, "The listing": one byte n, then n table records, then events; and what is printed of them, in order.
use Rattle.std.specs.Prelude.{ℕ, ◌+◌, ◌*◌, Bool, cond, List, [], ◌∷◌, ◌++◌, leb, ltb, length, get_or, take, drop}
use Rattle.laws.specs.Tests.{all_of}
use Rattle.table_rules.specs.declared.Table.{Table}
use Rattle.table_rules.specs.Answers.{Answer, Accepted, Refused}
use Rattle.table_rules.specs.Limits.{most_tasks}
use Rattle.table_reading.specs.Answers.{TableRead}
use Rattle.table_reading.specs.Row.{task_size}
use Rattle.table_reading.specs.Table.{read_table}
use Rattle.event_logs.specs.Log.{most_bytes, events_of}
use Rattle.state_rules.specs.State.{fresh_state}
use Rattle.listing_text.specs.TableLines.{task_lines, last_lines}
use Rattle.apply_events.specs.Log.{state_after}
use Rattle.listing_text.specs.LogLines.{event_lines, stop_text}
use Rattle.listing_text.specs.RefusalLines.{too_long, refused_line}

-- the listing of a table that is accepted, and of its events
unfoldable pub table_listing : Table → List ℕ → List ℕ
table_listing t log =
    task_lines t t.count
    ++ (event_lines 1 (fresh_state t) (events_of log)
    ++ (stop_text log ++ last_lines (state_after (fresh_state t) (events_of log)) t.count))

-- a refused table prints only `table refused N at P`
abbrev pub listed_by : Answer → Table → List ℕ → List ℕ
listed_by Accepted t log = table_listing t log
listed_by (Refused n p) t log = refused_line n p

unfoldable pub listed : TableRead → List ℕ → List ℕ
listed r log = listed_by r.answer r.table log

-- the first byte
abbrev pub count_byte : List ℕ → ℕ
count_byte s = get_or s 0 0

-- n is 1 to 16, and n table records are there
abbrev pub table_there : List ℕ → Bool
table_there s = all_of (leb 1 (count_byte s) ∷ leb (count_byte s) most_tasks ∷ leb (1 + task_size * count_byte s) (length s) ∷ [])

-- where the events begin; 0 where the table is not there
abbrev pub events_from : List ℕ → ℕ
events_from s = cond (table_there s) (1 + task_size * count_byte s) 0

abbrev pub table_bytes : List ℕ → List ℕ
table_bytes s = take (task_size * count_byte s) (drop 1 s)

abbrev pub event_bytes : List ℕ → List ℕ
event_bytes s = drop (1 + task_size * count_byte s) s

-- missing or short table bytes, or n outside 1 to 16, are refusal 1; over 65,536 bytes it prints only `input too long`
unfoldable pub listing_of : List ℕ → List ℕ
listing_of s =
    cond (ltb most_bytes (length s)) too_long
    (cond (table_there s) (listed (read_table (table_bytes s)) (event_bytes s)) (refused_line 1 0))
