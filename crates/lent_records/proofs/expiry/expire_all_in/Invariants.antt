-- `expiry::expire_all_in` meets its contract. The invariant: of the records passed the late ones are closed, and the others are as lent.
use Rattle.std.proofs.Common.{◌≡◌}
use Rattle.laws.specs.Stores.{filled}
use Rattle.lent_records.proofs.Expired.{one}
use Rattle.lent_records.proofs.expiry.expire_all_in.Given as goal

abbrev pub invariant-loop-record : goal.invariant-loop-record
invariant-loop-record l = l.row ≡ filled (one l.initial.row l.time) l.record-index l.initial.row
