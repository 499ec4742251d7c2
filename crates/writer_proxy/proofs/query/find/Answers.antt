-- `writer_proxy::query::find` meets its contract: at a number's place stands its entry, or it has none. Assumes nothing.
use native.Mathlib.Omega.{arith}
use mathlib.Core.Path.{◌∙◌}
use Rattle.writer_proxy.proofs.QueryLaws.{status_some, status_none}
use Rattle.writer_proxy.proofs.query.find.Goals as goal
use Rattle.writer_proxy.proofs.query.find.Goals.{else-at-t-via-then-at-t+else-number_at-n, else-at-t-via-else-at-t}

pub returns-then-number_at-n-clause-shown : goal.returns-then-number_at-n-clause-shown
returns-then-number_at-n-clause-shown c =
    status_some c.args.t.now c.requires c.args.n _ c.place-at.ensures _ c.if-at-t.true c.number_at.ensures c.if-number_at-n.true

pub returns-clause-shown : goal.returns-clause-shown
returns-clause-shown c =
    status_none c.args.t.now c.requires c.args.n _ c.place-at.ensures
    (elim c.else-at-t.branch [
      | else-at-t-via-then-at-t+else-number_at-n w ↦ λ h e. w.if-number_at-n.false (w.number_at.ensures ∙ e)
      | else-at-t-via-else-at-t w ↦ λ h e. omega (arith, w.if-at-t.false)
    ])
