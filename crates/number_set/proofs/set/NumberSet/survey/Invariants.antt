-- `number_set::set::NumberSet::survey` meets its contract: those below i are counted, and fit.
-- Assumes nothing.
use mathlib.Core.Path.{◌≡◌}
use mathlib.Core.Bool.{false}
use lib.ListN.{length}
use Rattle.bitmap.specs.Bitmap.{positions, any_past}
use Rattle.number_set.proofs.set.NumberSet.survey.Given as goal

abbrev pub invariant-loop-i : goal.invariant-loop-i
invariant-loop-i g l = (l.many ≡ length (positions l.self.words l.i)) × (any_past (g.N.Number.kind.fits l.self.base) (positions l.self.words l.i) ≡ false)
