use native.Mathlib.Omega.{arith}
use mathlib.Core.Path.{sym, ◌∙◌}
use Rattle.assembly_record.proofs.GapsLaws.{gaps_count_gap, gaps_count_marked}
use Rattle.assembly_record.proofs.marks.count_gaps.Goals as goal
use Rattle.assembly_record.proofs.marks.count_gaps.Goals.{then-not-is_marked, else-not-is_marked}

pub loop-j-preserved : goal.loop-j-preserved
loop-j-preserved c =
    let m = c.args.m.now in
    let l = c.loop-j in
    elim c.if-not-is_marked.branch [
      | then-not-is_marked w ↦ (w.k-is ∙ gaps_count_gap m l.j l.k l.invariant.0 (sym c.is_marked.ensures ∙ w.if-not-is_marked.true), omega (arith, w.k-is))
      | else-not-is_marked w ↦ (w.k-is ∙ gaps_count_marked m l.j l.k l.invariant.0 (sym c.is_marked.ensures ∙ w.if-not-is_marked.false), omega (arith, w.k-is))
    ]
