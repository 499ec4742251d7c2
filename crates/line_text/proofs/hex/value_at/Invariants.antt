-- `line_text::hex::value_at` meets its contract: v is what the digits so far write, and sixteen digits fit a word. Assumes nothing.
use Rattle.std.proofs.Common.{◌≡◌}
use Rattle.line_text.specs.Hex.{value_at}
use Rattle.line_text.proofs.hex.value_at.Given as goal

abbrev pub invariant-loop-c : goal.invariant-loop-c
invariant-loop-c l = l.v ≡ value_at l.s l.at l.c-index
