use mathlib.Core.Path.{◌≡◌}
use Rattle.state_choice.specs.Best.{as_best}
use Rattle.apply_engine.proofs.Settled.{Settling}
use Rattle.apply_engine.proofs.acting.expire_all.Given as goal

abbrev pub invariant-loop-i : goal.invariant-loop-i
invariant-loop-i l =
    record {
      counted : l.state.count ≡ l.initial.state.count;
      clock : l.state.clock ≡ l.initial.state.clock;
      settling : Settling l.initial.state.records l.time l.i l.state.records (as_best l.best);
    }
