use Rattle.std.proofs.Common.{◌≡◌, ◌/◌, ◌^◌, ◌++◌}
use Rattle.std.proofs.Math.ListN.{drop}
use Rattle.number_writing.specs.Bytes.{bytes}
use Rattle.number_writing.proofs.fill.Given as goal

abbrev pub invariant-loop-b : goal.invariant-loop-b
invariant-loop-b l =
    record {
      left : l.rest ≡ l.x / 256 ^ l.b-index;
      written : l.b-items ≡ bytes l.b-index l.x ++ drop l.b-index l.fn.s;
    }
