-- `number_set::set::NumberSet::iter` meets its contract: the members that were written are a case of `Walks`.
-- Assumes nothing.
use borrow.Author.Rules.{rules}
use Rattle.number_set.proofs.WalkLaws.{walk_up, walk_down}
use Rattle.number_set.proofs.set.NumberSet.iter.Goals as goal

pub returns-then-up : goal.returns-then-up
returns-then-up g c =
    let r = c.rise in
    walk_up g.N.Number.kind c.args.self c.args.out.now (search rules) c.args.up r.result r.ensures.value r.new.out c.if-up.true r.ensures.out_after

pub returns : goal.returns
returns g c =
    let r = c.fall in
    walk_down g.N.Number.kind c.args.self c.args.out.now (search rules) c.args.up r.result r.ensures.value r.new.out c.if-up.false r.ensures.out_after
