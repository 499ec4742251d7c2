-- `number_set::make::is_rising` meets its contract: the test of each element and the next is the kind's own.
-- Assumes nothing.
use Rattle.std.proofs.lemmas.Fn.{always_returns_same}
use mathlib.Core.Path.{refl}
use Rattle.std.proofs.Common.{of_calls}
use Rattle.number_set.proofs.MakeLaws.{rising_answer}
use Rattle.number_set.proofs.make.is_rising.Goals as goal

pub returns : goal.returns
returns g c =
    let k = g.N.Number.kind in
    rising_answer k c.args.list.now c.is_sorted_by.result (c.is_sorted_by.ensures.cases k.below (always_returns_same _ _ _ (λ a r f h. (search of_calls, refl))))
