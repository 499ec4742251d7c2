-- `stored_answers::proxy::start` meets its contract: a record by the rules is as long as set-up asks, and good after it. Assumes nothing.
use Rattle.std.proofs.Common.{arith, subst, take_all}
use Rattle.proxy_record.specs.Words.{proxy_size}
use Rattle.proxy_record.specs.Rules.{GoodProxy}
use Rattle.stored_answers.proofs.proxy.start.Goals as goal

pub returns : goal.returns
returns g c k = subst GoodProxy (take_all proxy_size c.set_up.new.t (omega (arith, k.whole))) (c.set_up.ensures.good_proxy (omega (arith, k.whole)))
