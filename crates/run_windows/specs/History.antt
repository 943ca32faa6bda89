-- The histories of one task's record: fresh, then jobs released one at a time and closed as met or missed.
use Rattle.std.specs.Prelude.{ℕ, ◌<◌, ◌≡◌, Bool, true, false, List, [], ◌∷◌}
use Rattle.table_rules.specs.declared.Task.{Task}
use Rattle.task_marks.specs.Marks.{most_count}
use Rattle.task_records.specs.declared.Record.{Record}
use Rattle.task_records.specs.Closing.{closed}
use Rattle.task_steps.specs.Opening.{fresh, opened}

-- the outcomes of the closed jobs and the record that they leave
pub data History (task : Task) : List Bool → Record → Type 0 where
  start : History task [] (fresh task)
  release : {os : List Bool} {r : Record} (t : ℕ) → r.live ≡ false → r.released < most_count → History task os r → History task os (opened r t)
  close : {os : List Bool} {r : Record} (met : Bool) → r.live ≡ true → History task os r → History task (met ∷ os) (closed r met)
