-- `stored_answers::run` is safe: set-up makes both records good. Assumes nothing.
use Rattle.std.proofs.Common.{ap, arith, subst, take_all}
use Rattle.outcome.specs.Refusal.{said}
use Rattle.proxy_record.specs.Words.{proxy_size}
use Rattle.proxy_record.specs.Rules.{GoodProxy}
use Rattle.assembly_record.specs.Sizes.{assembler_size}
use Rattle.assembly_record.specs.Rules.{GoodAssembler}
use Rattle.stored_answers.proofs.run.Goals as goal

pub invariant_of-proxy : goal.invariant_of-proxy
invariant_of-proxy g c = record { good = subst GoodProxy (take_all proxy_size c.set_up.new.t (omega arith)) (c.set_up.ensures.good_proxy (omega arith)) }

pub invariant_of-assembler : goal.invariant_of-assembler
invariant_of-assembler g c = record { good = subst GoodAssembler (take_all assembler_size c.set_up-2.new.t (omega arith)) (c.set_up-2.ensures.good (ap said c.in-Ok.is)) }
