-- Rules, "Thresholds and classes": what a met and a missed job do to the task's record.
use Rattle.std.specs.Prelude.{◌+◌, Bool, true, false, cond, eqb, leb}
use Rattle.task_levels.specs.Level.{class_of, raised, lowest}
use Rattle.task_thresholds.specs.Thresholds.{w_of, h_of, top_of}
use Rattle.task_records.specs.declared.Record.{Record}
use Rattle.task_marks.specs.Marks.{count_of, pushed}
use Rattle.task_records.specs.Window.{broken_by}

-- missed in class 0 or with run + 1 >= w
abbrev pub set_back : Record → Bool
set_back r = cond (eqb (class_of r.level) 0) true (leb (w_of r.task.m r.task.k) (r.run + 1))

unfoldable pub closed : Record → Bool → Record
-- job met: level rises by one, not above the top; run becomes 0
closed r true =
    record {
      task = r.task;
      level = raised r.level (top_of r.task.m r.task.k);
      run = 0;
      live = false;
      class = r.class;
      last = r.last;
      released = r.released;
      met = count_of r.met;
      missed = r.missed;
      marks = pushed r.task.k r.marks 0;
      broken = broken_by r (pushed r.task.k r.marks 0);
    }
-- job missed: set back to level 1 - h and run 0, or run rises by one and the level stays
closed r false =
    record {
      task = r.task;
      level = cond (set_back r) (lowest (h_of r.task.m r.task.k)) r.level;
      run = cond (set_back r) 0 (r.run + 1);
      live = false;
      class = r.class;
      last = r.last;
      released = r.released;
      met = r.met;
      missed = count_of r.missed;
      marks = pushed r.task.k r.marks 1;
      broken = broken_by r (pushed r.task.k r.marks 1);
    }
