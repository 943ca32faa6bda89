-- The test of a state tells exactly whether it is sound: clause by clause.
use mathlib.Core.Path.{◌≡◌}
use mathlib.Core.Bool.{true, false, cond}
use borrow.Author.Tests.{le-leb, leb-true}
use lib.Dec.{leb}
use Rattle.laws.proofs.Tests.{Tells, tells, tells_true, both_hold}
use Rattle.table_rules.specs.Rules.{count_holds}
use Rattle.table_rules.proofs.Exactly.{counted_tells}
use Rattle.task_soundness.proofs.Sounding.{sound_tells}
use Rattle.state_rules.specs.declared.State.{State}
use Rattle.state_rules.specs.State.{record_at}
use Rattle.state_rules.specs.Sound.{limit, StateSound, each_holds, state_holds}
use Rattle.state_rules.proofs.Each.{each_at, each_if}

module _ (s : State) where
  tested : state_holds s ≡ true → StateSound s
  unfolding state_holds
  tested e =
      let a = both_hold (count_holds s.count) (cond (leb s.clock limit) (each_holds s.records s.clock s.count) false) e in
      let b = both_hold (leb s.clock limit) (each_holds s.records s.clock s.count) a.1 in
      record {
        counted = (counted_tells s.count).holds a.0;
        clock = leb-true _ _ b.0;
        each = λ i h. (sound_tells (record_at s i) s.clock).holds (each_at s.records s.clock s.count b.1 i h);
      }

  passes : StateSound s → state_holds s ≡ true
  unfolding state_holds
  passes p =
      rw (
        tells_true (counted_tells s.count) p.counted,
        le-leb _ _ p.clock,
        each_if s.records s.clock s.count (λ i h. tells_true (sound_tells (record_at s i) s.clock) (p.each i h)),
      )

  pub state_tells : Tells (state_holds s) (StateSound s)
  state_tells = tells tested passes
