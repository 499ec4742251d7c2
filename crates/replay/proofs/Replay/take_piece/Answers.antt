-- `replay::Replay::take_piece` meets its contract: a piece has no more bytes than one call takes, so all of it is fed. Assumes nothing.
use Rattle.std.proofs.Common.{arith, length, ap, length-take, take_all}
use Rattle.replay_lines.specs.Feed.{piece_most}
use Rattle.replay.proofs.Replay.take_piece.Goals as goal

pub returns-clause-lent_after : goal.returns-clause-lent_after
returns-clause-lent_after g c =
    let e = c.front-piece.ensures in
    let p = take_all piece_most c.front-piece.result.now (omega (arith, ap length e, length-take c.args.end c.args.self.now.input)) in
    let w = rw (p, e) at c.feed-fed.ensures.piece_fed.fed_with in
    w.fed_is

pub returns-clause-out_after : goal.returns-clause-out_after
returns-clause-out_after g c =
    let e = c.front-piece.ensures in
    let p = take_all piece_most c.front-piece.result.now (omega (arith, ap length e, length-take c.args.end c.args.self.now.input)) in
    let w = rw (p, e) at c.feed-fed.ensures.piece_fed.fed_with in
    w.out_is
