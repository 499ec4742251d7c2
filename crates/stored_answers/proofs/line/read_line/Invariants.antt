-- The loop of `stored_answers::line::read_line`. Assumes nothing.
use Rattle.std.proofs.Common.{◌≡◌, ◌≤◌, length}
use Rattle.stored_answers.proofs.line.read_line.Given as goal

abbrev pub invariant-loop-i : goal.invariant-loop-i
invariant-loop-i l = (l.count ≤ length l.initial.words) × (length l.words ≡ length l.initial.words)
