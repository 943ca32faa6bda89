-- `write_records` meets its contract: the record that is put behind i others is the next.
use mathlib.Core.Path.{refl}
use native.Mathlib.Numerals.{add-one}
use Rattle.table_writing.specs.Writing.{records_of}
use Rattle.table_writing.proofs.Records.{record_put}
use Rattle.table_writing.proofs.write_records.Goals as goal

pub loop-i-init : goal.loop-i-init
unfolding records_of
loop-i-init c = refl

pub loop-i-preserved : goal.loop-i-preserved
loop-i-preserved c =
    let l = c.loop-i in
    rw (c.copy_from_slice.ensures.after, c.record_of.ensures, l.invariant, add-one) (record_put c.args.table.tasks l.i c.args.out.now)
