-- `writer_proxy::query::all_ackable_before` meets its contract: the first word is the base. Assumes nothing.
use native.Mathlib.Omega.{arith}
use Rattle.proxy_record.specs.State.{cap}
use Rattle.proxy_record.proofs.RulesLaws.{base_word}
use Rattle.writer_proxy.proofs.query.all_ackable_before.Goals as goal

pub returns : goal.returns
returns c = base_word cap _ (omega arith) c.requires
