use mathlib.Core.Path.{◌≡◌}
use Rattle.apply_engine.proofs.Settled.{settled_to}
use Rattle.tally_runs.proofs.report.expire_all.Given as goal

abbrev pub invariant-loop-i : goal.invariant-loop-i
invariant-loop-i l =
    record {
      counted : l.state.count ≡ l.initial.state.count;
      clock : l.state.clock ≡ l.initial.state.clock;
      rows : l.state.records ≡ settled_to l.initial.state.records l.time l.i;
    }
