-- `store` meets its contract: the three parts make up the record.
use Rattle.event_writing.proofs.WriteOne.{record_stored}
use Rattle.event_writing.proofs.store.Goals as goal

pub returns : goal.returns
returns c =
    record_stored c.args.event c.args.out.now _ _ _ c.requires c.copy_from_slice.ensures.after c.put.ensures.1 c.put-2.ensures.1
