-- `writer_proxy::received::received_at` meets its contract: while nothing is tracked the base passes the number at once, and otherwise it is as `received_any`. Assumes nothing.
use Rattle.writer_proxy.proofs.CallsInPlace.{received_first}
use Rattle.writer_proxy.proofs.received.received_at.Goals as goal

pub returns-then-t-eq0 : goal.returns-then-t-eq0
returns-then-t-eq0 c =
    received_first c.args.n c.args.time c.args.t.now _ c.requires.0 c.requires.1 c.note.ensures c.if-n-t.true c.if-t-eq0.true
