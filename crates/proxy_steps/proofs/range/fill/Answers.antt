use native.Mathlib.Omega.{arith}
use Rattle.proxy_steps.proofs.RangeLaws.{fill_more, fill_end}
use Rattle.proxy_steps.proofs.range.fill.Goals as goal

pub loop-n-preserved : goal.loop-n-preserved
loop-n-preserved c =
    let r = c.requires in
    fill_more _ _ _ _ _ _ c.loop-n.invariant (omega arith) (omega arith) r.1 r.3 r.4 c.put.ensures

pub returns : goal.returns
returns c = fill_end c.args.t.now c.loop-n.t c.args.a c.args.b c.loop-n.n c.loop-n.invariant (omega arith)
