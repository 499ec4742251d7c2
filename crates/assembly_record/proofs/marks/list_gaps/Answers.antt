use Prim.Native.Nat.{ℕ, suc, ◌+◌, ◌≤◌, ◌<◌}
use native.Mathlib.Omega.{arith}
use native.Mathlib.Numerals.{add-one}
use mathlib.Core.Path.{◌≡◌, sym, ap, ◌∙◌}
use mathlib.Core.Bool.{false}
use mathlib.Core.List.{List, [], ◌∷◌}
use lib.ListN.{length, length-append}
use Rattle.outcome.specs.Lent.{over}
use Rattle.assembly_record.proofs.GapsLaws.{gaps_mono, gaps_gap, gaps_more, gaps_marked}
use Rattle.assembly_record.specs.Marks.{marked, gaps}
use Rattle.assembly_record.proofs.marks.list_gaps.Goals as goal
use Rattle.assembly_record.proofs.marks.list_gaps.Goals.{then-not-is_marked, else-not-is_marked}

-- a gap at i has room
room : (m : List ℕ) (n i k long : ℕ) → i < n → k ≡ length (gaps m i) → length (gaps m n) ≤ long → marked m i ≡ false → k < long
room m n i k long h e fits u =
    omega (arith, gaps_mono m (suc i) n (omega arith), ap length (gaps_gap m i u), length-append (gaps m i) (suc i ∷ []))

pub bounds-out-k : goal.bounds-out-k
bounds-out-k c =
    omega (arith, room c.args.m.now c.args.n c.loop-i.i c.loop-i.k _ c.loop-i-test.true c.loop-i.invariant.0 c.requires.1.1 (sym c.is_marked.ensures ∙ c.if-not-is_marked.true))

pub loop-i-preserved : goal.loop-i-preserved
loop-i-preserved c =
    let x = c.args in
    let l = c.loop-i in
    elim c.if-not-is_marked.branch [
      | then-not-is_marked w ↦
          let u : marked x.m.now l.i ≡ false = sym c.is_marked.ensures ∙ w.if-not-is_marked.true in
          let g = gaps_more x.m.now l.i x.out.now l.out l.k l.invariant.0 l.invariant.1 u (room x.m.now x.n l.i l.k _ c.loop-i-test.true l.invariant.0 c.requires.1.1 u) in
          (w.k-is ∙ g.0, w.out-is ∙ g.1)
      | else-not-is_marked w ↦
          let e : gaps x.m.now (l.i + 1) ≡ gaps x.m.now l.i =
          (ap (gaps x.m.now) (add-one l.i) ∙ gaps_marked x.m.now l.i (sym c.is_marked.ensures ∙ w.if-not-is_marked.false)) in
          (w.k-is ∙ l.invariant.0 ∙ ap length (sym e), w.out-is ∙ l.invariant.1 ∙ ap (λ (g : List ℕ). over g x.out.now) (sym e))
    ]
