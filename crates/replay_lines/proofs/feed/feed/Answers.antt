-- `replay_lines::feed::feed` meets its contract: the buffer holds all that the first bytes of a piece may say. Assumes nothing.
use Rattle.std.proofs.Common.{arith, length, ap, length-take}
use Rattle.replay_lines.specs.Feed.{piece_most}
use Rattle.replay_lines.proofs.feed.feed.Goals as goal

pub take_bytes-wrote-requires : goal.take_bytes-wrote-requires
take_bytes-wrote-requires c = (c.requires, omega (arith, ap length c.front-first.ensures, length-take piece_most c.args.piece.now))
