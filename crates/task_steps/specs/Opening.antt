-- Rules, "Events and the clock", for one task: fresh, expired by a time, and a new job released at a time.
use Rattle.std.specs.Prelude.{ℕ, ◌+◌, Bool, true, false, cond, ltb, pos}
use Rattle.task_levels.specs.Level.{class_of, lowest}
use Rattle.table_rules.specs.declared.Task.{Task}
use Rattle.table_rules.specs.Rules.{no_task}
use Rattle.task_thresholds.specs.Thresholds.{h_of}
use Rattle.task_records.specs.declared.Record.{Record}
use Rattle.task_marks.specs.Marks.{count_of}
use Rattle.task_records.specs.Closing.{closed}

-- level 1 - h, run 0, and no job yet
abbrev pub fresh : Task → Record
fresh task =
    record {
      task = task;
      level = lowest (h_of task.m task.k);
      run = 0;
      live = false;
      class = 0;
      last = 0;
      released = 0;
      met = 0;
      missed = 0;
      marks = 0;
      broken = 0;
    }

-- the open job's deadline, release + D, is below t
abbrev pub late : Record → ℕ → Bool
late r t = cond r.live (ltb (r.last + r.task.d) t) false

-- step 1 for one task: it is closed as missed
unfoldable pub expired : Record → ℕ → Record
expired r t = cond (late r t) (closed r false) r

-- a new job opens with the class as it now stands
unfoldable pub opened : Record → ℕ → Record
opened r t =
    record {
      task = r.task;
      level = r.level;
      run = r.run;
      live = true;
      class = class_of r.level;
      last = t;
      released = count_of r.released;
      met = r.met;
      missed = r.missed;
      marks = r.marks;
      broken = r.broken;
    }

-- a place that holds no task
abbrev pub no_record : Record
no_record =
    record {
      task = no_task;
      level = pos 0;
      run = 0;
      live = false;
      class = 0;
      last = 0;
      released = 0;
      met = 0;
      missed = 0;
      marks = 0;
      broken = 0;
    }
