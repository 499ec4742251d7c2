-- `known_values::missing_from_base` meets its contract: set-up leaves a record by the rules, and each call keeps them. Assumes nothing.
use Rattle.std.proofs.Common.{arith, subst, take_all}
use Rattle.proxy_record.specs.Words.{proxy_size}
use Rattle.proxy_record.specs.Rules.{GoodProxy}
use Rattle.known_values.proofs.missing_from_base.Goals as goal

pub received_changes_add-requires : goal.received_changes_add-requires
received_changes_add-requires g c = subst GoodProxy (take_all proxy_size c.set_up.new.t (omega arith)) (c.set_up.ensures.good_proxy (omega arith))
