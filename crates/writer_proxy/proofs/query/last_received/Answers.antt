-- `writer_proxy::query::last_received` meets its contract: the two words of the head, by the cases of `last_received`. Assumes nothing.
use native.Mathlib.Omega.{arith}
use Rattle.proxy_record.specs.State.{cap}
use Rattle.proxy_record.specs.Words.{proxy_of}
use Rattle.proxy_record.proofs.PartLaws.{last_at, time_at}
use Rattle.proxy_record.proofs.WordsLaws.{good_kept}
use Rattle.writer_proxy.proofs.QueryLaws.{last_none, last_some}
use Rattle.writer_proxy.proofs.query.last_received.Goals as goal

pub returns-then-t-eq0 : goal.returns-then-t-eq0
returns-then-t-eq0 c = last_none (proxy_of c.args.t.now) _ (last_at (good_kept cap _ (omega arith) c.requires)) c.if-t-eq0.true

pub returns : goal.returns
returns c =
    let d = good_kept cap _ (omega arith) c.requires in
    last_some (proxy_of c.args.t.now) _ _ (last_at d) (time_at d) c.if-t-eq0.false
