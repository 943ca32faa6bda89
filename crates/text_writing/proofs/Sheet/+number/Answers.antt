-- `number` meets its contract: a number of one digit is that digit, and any other is its tenth with one digit behind it.
use Rattle.text_writing.proofs.Putting.{digit_put, digits_put}
use Rattle.text_writing.proofs.Sheet.+number.Goals as goal

pub returns-then-n-lt10 : goal.returns-then-n-lt10
returns-then-n-lt10 t c = digit_put c.args.n c.if-n-lt10.true c.byte.ensures

pub returns : goal.returns
returns t c = digits_put c.args.n c.if-n-lt10.false c.number.ensures c.byte-2.ensures
