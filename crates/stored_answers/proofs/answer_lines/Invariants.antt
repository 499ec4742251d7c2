-- The loop of `stored_answers::answer_lines`: each line leaves less of the input. Assumes nothing.
use Rattle.std.proofs.Common.{length}
use Rattle.stored_answers.proofs.answer_lines.Given as goal

abbrev pub decreases-loop-rest : goal.decreases-loop-rest
decreases-loop-rest g l = length l.rest
