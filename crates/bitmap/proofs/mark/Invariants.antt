-- `bitmap::mark` meets its contract: what is left of the list still sets what the whole list sets.
-- Assumes nothing.
use mathlib.Core.Path.{◌≡◌}
use lib.ListN.{drop}
use Rattle.bitmap.specs.Bitmap.{zero_words}
use Rattle.bitmap.specs.Marking.{set_bits}
use Rattle.bitmap.proofs.mark.Given as goal

abbrev pub invariant-loop-x : goal.invariant-loop-x
invariant-loop-x g l = let place = g.N.Number.kind.apart l.low in set_bits place l.count l.words (drop l.x-index l.list) ≡ set_bits place l.count zero_words l.list
