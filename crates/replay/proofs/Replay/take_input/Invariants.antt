-- `replay::Replay::take_input` meets its contract: what is fed so far was reached by some bytes. Assumes nothing.
use Rattle.proxy_record.specs.Rules.{GoodProxy}
use Rattle.replay_lines.specs.Feed.{lent}
use Rattle.replay.specs.Run.{FedSome}
use Rattle.replay.proofs.Replay.take_input.Given as goal

abbrev pub invariant-loop : goal.invariant-loop
invariant-loop g l = GoodProxy l.self.words × FedSome (lent l.initial.self.words l.initial.self.kept) (lent l.self.words l.self.kept)
