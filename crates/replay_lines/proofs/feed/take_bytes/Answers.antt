use Rattle.replay_lines.proofs.FeedLaws.{going_first, going_on}
use Rattle.replay_lines.proofs.feed.take_bytes.Goals as goal

pub loop-byte-init : goal.loop-byte-init
loop-byte-init c = going_first _ _ _ c.requires.1 c.requires.0 c.args.kept.now.held.whole

pub loop-byte-preserved : goal.loop-byte-preserved
loop-byte-preserved c =
    let l = c.loop-byte in
    let f = c.take_byte-step in
    (going_on _ c.args.piece.now c.args.out.now c.requires.1 l.byte-index _ l.wrote l.out l.invariant c.loop-byte-test.true l.auto.out f.result.wrote _ f.new.out f.auto.out f.ensures.good_proxy f.ensures.fed_with).1
