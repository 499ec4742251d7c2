-- `replay::Replay::run` meets its contract: set-up makes the words a fresh record. Assumes nothing.
use Rattle.std.proofs.Common.{arith, subst, take_all}
use Rattle.proxy_record.specs.Rules.{GoodProxy}
use Rattle.proxy_record.specs.Words.{proxy_size}
use Rattle.replay_lines.specs.Feed.{feeding}
use Rattle.replay.proofs.RunLaws.{fresh_words, ran_fresh}
use Rattle.replay.proofs.Replay.run.Goals as goal

pub take_all-requires : goal.take_all-requires
take_all-requires g c = subst GoodProxy (take_all proxy_size c.set_up.new.t (omega arith)) (c.set_up.ensures.good_proxy (omega arith))

pub returns : goal.returns
returns g c =
    let kept = c.args.self.now.kept in
    ran_fresh _ (λ w. feeding w kept.list kept.held.bytes 0) _ _ (fresh_words _ _ (omega arith) c.set_up.ensures.result_value.1) c.take_all.ensures
