-- `known_values::one_more` meets its contract: set-up leaves a record by the rules, as long as the words that were lent, and each call keeps them. Assumes nothing.
use Rattle.std.proofs.Common.{ap, arith}
use Rattle.outcome.specs.Refusal.{said}
use Rattle.fragment_assembler.proofs.SetUpLaws.{set_up_record}
use Rattle.known_values.proofs.one_more.Goals as goal

pub open_all-requires : goal.open_all-requires
open_all-requires g c = set_up_record _ _ _ _ _ _ c.set_up.ensures (omega arith) (ap said c.in-Ok.is)
