-- `proxy_steps::range::fill` meets its contract: the rest of the numbers leads from the record as it stands to the same state. Assumes nothing.
use Rattle.proxy_steps.proofs.RangeLaws.{Filling}
use Rattle.proxy_steps.proofs.range.fill.Given as goal

abbrev pub invariant-loop-n : goal.invariant-loop-n
invariant-loop-n l = Filling l.initial.t l.t l.a l.b l.n
