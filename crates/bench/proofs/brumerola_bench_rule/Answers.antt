-- `brumerola_bench_rule` meets its contract: 0, or the sum of the rule's events.
use mathlib.Core.Path.{sym, ◌∙◌}
use Rattle.bench.proofs.brumerola_bench_rule.Goals as goal

pub returns-then-not-serves : goal.returns-then-not-serves
returns-then-not-serves c = rw (sym c.serves.ensures ∙ c.if-not-serves.true)

pub returns : goal.returns
returns c = rw (sym c.serves.ensures ∙ c.if-not-serves.false, c.rule_sum.ensures, c.events.ensures, c.first.ensures)
