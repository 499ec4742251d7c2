-- `replay_lines::feed::take_bytes` meets its contract: the bytes so far were fed. Assumes nothing.
use Rattle.replay_lines.specs.Feed.{feeding, lent}
use Rattle.replay_lines.proofs.FeedLaws.{Going}
use Rattle.replay_lines.proofs.feed.take_bytes.Given as goal

abbrev pub invariant-loop-byte : goal.invariant-loop-byte
invariant-loop-byte l = Going (lent l.initial.words l.initial.kept) l.piece l.initial.out l.byte-index (feeding l.words l.kept.list l.kept.held.bytes l.count) l.wrote l.out
