-- `number_set::set::NumberSet::check` meets its contract: where each position fits and has room, nothing refuses.
-- Assumes nothing.
use mathlib.Core.Path.{sym, ◌∙◌}
use native.Mathlib.Omega.{arith}
use borrow.Author.Tests.{lt-ltb}
use Rattle.number_set.proofs.WalkLaws.{none_refuses}
use Rattle.number_set.proofs.set.NumberSet.check.Goals as goal

pub returns-then-self-room : goal.returns-then-self-room
returns-then-self-room g c =
    none_refuses g.N.Number.kind c.args.self c.args.room (omega arith)
    (λ i h. sym (c.fit.ensures i (omega arith)) ∙ lt-ltb i c.fit.result (omega arith)) c.if-self-room.true
