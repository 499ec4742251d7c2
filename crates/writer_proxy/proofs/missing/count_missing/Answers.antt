-- `writer_proxy::missing::count_missing` meets its contract: what is missing and what is tracked between two places make up the range. Assumes nothing.
use Rattle.writer_proxy.proofs.MissingInPlace.{counted}
use Rattle.writer_proxy.proofs.missing.count_missing.Goals as goal

pub overflow_sub-result-2 : goal.overflow_sub-result-2
overflow_sub-result-2 c =
    (counted c.args.lo c.args.hi c.requires.0 c.requires.1 c.place-a.ensures c.place-b.ensures).0

pub overflow_sub-result-3 : goal.overflow_sub-result-3
overflow_sub-result-3 c =
    (counted c.args.lo c.args.hi c.requires.0 c.requires.1 c.place-a.ensures c.place-b.ensures).1

pub returns : goal.returns
returns c =
    (counted c.args.lo c.args.hi c.requires.0 c.requires.1 c.place-a.ensures c.place-b.ensures).2
