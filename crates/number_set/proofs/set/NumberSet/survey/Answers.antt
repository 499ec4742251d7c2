use Prim.Native.Nat.{ℕ, ◌+◌}
use mathlib.Core.Path.{◌≡◌, ap, ◌∙◌, sym}
use mathlib.Core.Bool.{true, false}
use native.Mathlib.Omega.{arith}
use lib.ListN.{length}
use borrow.Author.Tests.{lt-ltb, le-ltb}
use Rattle.bitmap.specs.Bitmap.{any_past}
use Rattle.bitmap.proofs.PositionLaws.{length_positions, length_more, positions_no}
use Rattle.bitmap.proofs.PastLaws.{past_found, past_more}
use Rattle.number_set.proofs.set.NumberSet.survey.Goals as goal
use Rattle.number_set.proofs.set.NumberSet.survey.Goals.{then-has+else-fit-i, else-has}

pub returns-then-fit-i : goal.returns-then-fit-i
returns-then-fit-i g c =
    let i : ℕ = c.loop-i.i in
    let s = c.args.self in
    let fits = g.N.Number.kind.fits s.base in
    let past : fits i ≡ false = sym (c.fit-fit.ensures i (omega arith)) ∙ le-ltb i _ c.if-fit-i.true in
    rw (past_found fits s.words i s.count c.loop-i-test.true (sym c.has.ensures ∙ c.if-has.true) past)

pub overflow_add-many : goal.overflow_add-many
overflow_add-many g c = record { fits = omega (arith, length_positions c.args.self.words c.loop-i.i) }

pub loop-i-preserved : goal.loop-i-preserved
loop-i-preserved g c =
    let l = c.loop-i in
    let i : ℕ = l.i in
    let s = c.args.self in
    let fits = g.N.Number.kind.fits s.base in
    elim c.if-has.branch [
      | then-has+else-fit-i w ↦
          (let e = sym c.has.ensures ∙ w.if-has.true in
          let inside : fits i ≡ true = sym (c.fit-fit.ensures i (omega arith)) ∙ lt-ltb i _ w.if-fit-i.false in (
            w.many-is ∙ ap (λ (n : ℕ). n + 1) l.invariant.0 ∙ sym (length_more s.words i e),
            past_more fits s.words i e inside l.invariant.1,
          ))
      | else-has w ↦
          (let e = sym (positions_no s.words i (sym c.has.ensures ∙ w.if-has.false)) in (
            w.many-is ∙ l.invariant.0 ∙ ap length e,
            ap (any_past fits) (sym e) ∙ l.invariant.1,
          ))
    ]
