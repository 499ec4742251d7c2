-- `known_values::reopened` meets its contract: set-up leaves a record by the rules, and each call keeps them. Assumes nothing.
use Rattle.std.proofs.Common.{ap, arith}
use Rattle.outcome.specs.Refusal.{said}
use Rattle.fragment_assembler.proofs.SetUpLaws.{set_up_record}
use Rattle.known_values.proofs.reopened.Goals as goal

pub new_datafrag-requires : goal.new_datafrag-requires
new_datafrag-requires g c = set_up_record _ _ _ _ _ _ c.set_up.ensures (omega arith) (ap said c.in-Ok.is)
