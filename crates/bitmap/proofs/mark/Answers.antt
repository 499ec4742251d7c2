use mathlib.Core.Path.{ap, ◌∙◌, sym}
use Prim.Native.Nat.{◌/◌}
use lib.ListN.{set}
use Rattle.std.proofs.lemmas.List.{drop_all}
use Rattle.bitmap.specs.Marking.{set_bits}
use Rattle.bitmap.proofs.MarkingLaws.{mark_yes, mark_no}
use Rattle.bitmap.proofs.mark.Goals as goal
use Rattle.bitmap.proofs.mark.Goals.{then-i-count, else-i-count}

pub loop-x-preserved : goal.loop-x-preserved
loop-x-preserved g c =
    let a = c.args in
    let l = c.loop-x in
    let place = g.N.Number.kind.apart a.low in
    elim c.if-i-count.branch [
      | then-i-count w ↦
          mark_yes place a.count a.list.now l.x-index c.x-item.result c.apart-i.result l.words _ c.loop-x-test.true c.x-item.is c.apart-i.ensures l.invariant
          c.if-i-count.words w.if-i-count.true (w.words-is ∙ ap (set l.words (c.apart-i.result / 32)) w.with_mask.ensures)
      | else-i-count w ↦
          mark_no place a.count a.list.now l.x-index c.x-item.result c.apart-i.result l.words _ c.loop-x-test.true c.x-item.is c.apart-i.ensures l.invariant
          c.if-i-count.words w.if-i-count.false w.words-is
    ]

pub returns : goal.returns
returns g c =
    let a = c.args in
    sym (ap (set_bits (g.N.Number.kind.apart a.low) a.count c.loop-x.words) (drop_all c.loop-x.x-index a.list.now c.loop-x-test.false)) ∙ c.loop-x.invariant
