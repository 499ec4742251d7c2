-- `set_words::write_words` meets its contract: the words below i are written, one after the other.
-- Assumes nothing.
use Rattle.set_words.specs.SetWords.{words_bytes}
use lib.Seq.{sets}
use mathlib.Core.Path.{◌≡◌}
use Rattle.set_words.proofs.write_words.Given as goal

abbrev pub invariant-loop-i : goal.invariant-loop-i
invariant-loop-i l = l.out ≡ sets l.initial.out l.at (words_bytes l.o l.fn.words l.i)
