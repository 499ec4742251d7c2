-- `stored_answers::assembler::start` meets its contract: set-up leaves a record by the rules by them. Assumes nothing.
use Rattle.std.proofs.Common.{arith}
use Rattle.stored_answers.proofs.KeepLaws.{set_up_keeps}
use Rattle.stored_answers.proofs.assembler.start.Goals as goal

pub returns : goal.returns
returns g c k = set_up_keeps _ _ _ _ _ _ c.set_up-done.ensures k (omega (arith, k.long))
