-- `replay::Replay::take_input` meets its contract: bytes are fed after bytes. Assumes nothing.
use Rattle.replay.proofs.RunLaws.{fed_more, front_some}
use Rattle.replay.proofs.Replay.take_input.Goals as goal

pub returns-then-not-take_some-clause-fed_some : goal.returns-then-not-take_some-clause-fed_some
returns-then-not-take_some-clause-fed_some g c = fed_more _ _ _ c.loop.invariant.1 (front_some _ _ _ c.take_some.ensures.fed_front)

pub loop-preserved : goal.loop-preserved
loop-preserved g c = (c.take_some.ensures.good_proxy, fed_more _ _ _ c.loop.invariant.1 (front_some _ _ _ c.take_some.ensures.fed_front))
