-- `replay_lines::feed::take_byte` meets its contract: a byte that ends no line is held, or passed over. Assumes nothing.
use Rattle.replay_lines.proofs.FeedLaws.{byte_held}
use Rattle.replay_lines.proofs.feed.take_byte.Goals as goal

pub returns-clause-fed_with : goal.returns-clause-fed_with
returns-clause-fed_with c = byte_held _ _ _ _ c.if-byte-eq10.false c.hold-count.ensures
