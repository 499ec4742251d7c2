-- `proxy_steps::range::skip_to` meets its contract: what is below b goes, b is the base, and it moves on. Assumes nothing.
use native.Mathlib.Omega.{arith}
use Rattle.proxy_steps.proofs.RangeLaws.{skip_none, skip_past, skip_some}
use Rattle.proxy_steps.proofs.range.skip_to.Goals as goal

pub returns-then-b-t : goal.returns-then-b-t
returns-then-b-t c = skip_none c.args.t.now c.requires.0 c.args.b c.requires.1 (omega (arith, c.if-b-t.true))

pub advance_ack_base-requires : goal.advance_ack_base-requires
advance_ack_base-requires c = (c.requires.0, skip_past c.args.t.now c.requires.0 c.args.b c.requires.1 (omega (arith, c.if-b-t.false)), c.requires.1)

pub returns : goal.returns
returns c = skip_some c.args.t.now c.requires.0 c.args.b c.requires.1 _ (omega (arith, c.if-b-t.false)) c.advance_ack_base.ensures
