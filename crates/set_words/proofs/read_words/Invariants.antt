-- `set_words::read_words` meets its contract: the words below i are read, one after the other, over zeros.
-- Assumes nothing.
use Rattle.set_words.specs.SetWords.{words_from}
use lib.ListN.{take}
use Rattle.bitmap.specs.Bitmap.{zero_words}
use lib.Seq.{sets}
use mathlib.Core.Path.{◌≡◌}
use Rattle.set_words.proofs.read_words.Given as goal

abbrev pub invariant-loop-i : goal.invariant-loop-i
invariant-loop-i l = l.word-items ≡ sets (take l.n zero_words) 0 (words_from l.o l.s l.at l.i)
