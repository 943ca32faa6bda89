-- `brumerola_bench_apply` meets its contract: 0, or what the engine by value comes to over the rule's events.
use mathlib.Core.Path.{sym, ◌∙◌}
use Rattle.bench.proofs.brumerola_bench_apply.Goals as goal

pub returns-then-not-serves : goal.returns-then-not-serves
returns-then-not-serves c = rw (sym c.serves.ensures ∙ c.if-not-serves.true)

pub returns : goal.returns
returns c =
    rw (
      sym c.serves.ensures ∙ c.if-not-serves.false,
      c.apply_sum.ensures,
      c.events.ensures,
      c.state_in-state.ensures,
      c.start.ensures,
      c.table.ensures,
      c.first-maker.ensures,
    )
