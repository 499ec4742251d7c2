-- `line_text::decimal::put_few` meets its contract: one digit or two are those of `digits`. Assumes nothing.
use Rattle.std.proofs.Common.{◌+◌, ◌/◌, arith, length-set}
use Rattle.line_text.proofs.DecimalLaws.{length_one, length_more, one_put, two_put}
use Rattle.line_text.proofs.decimal.put_few.Goals as goal

pub bounds-out-0 : goal.bounds-out-0
bounds-out-0 c = omega (arith, c.requires.1, length_one c.args.n (omega arith))

pub returns-then-n-lt10 : goal.returns-then-n-lt10
returns-then-n-lt10 c = one_put c.args.out.now c.args.n c.requires.1 _ (omega arith) (omega arith)

pub bounds-out-0-2 : goal.bounds-out-0-2
bounds-out-0-2 c = omega (arith, c.requires.1, length_more c.args.n (omega arith))

pub bounds-out-1 : goal.bounds-out-1
bounds-out-1 c =
    omega (arith, c.requires.1, length_more c.args.n (omega arith), length_one (c.args.n / 10) (omega arith), length-set c.args.out.now 0 (48 + c.args.n / 10))

pub returns : goal.returns
returns c = two_put c.args.out.now c.args.n c.requires.1 _ _ (omega arith) (omega arith) (omega arith) (omega arith)
