use Prim.Native.Nat.{ℕ, ◌+◌, ◌-◌, ◌<◌}
use mathlib.Core.Path.{◌≡◌, ap, ◌∙◌}
use borrow.Author.Rules.{rules}
use native.Mathlib.Omega.{arith}
use lib.ListN.{length, set}
use Rattle.set_walk.proofs.FallsLaws.{falls_yes, falls_no, falls_more, falls_room, falls_fits, falls_long, falls_done}
use Rattle.set_walk.proofs.fall.fall_word.Given.{Over}
use Rattle.set_walk.proofs.fall.fall_word.Goals as goal
use Rattle.set_walk.proofs.fall.fall_word.Goals.{In-loop-w, Then-w-eq1, then-w-eq1, else-w-eq1}

-- where the bit that is walked next stands
here : (g : Over) (c : In-loop-w g) → c.loop-w.i - 1 ≡ c.args.from + (c.loop-w.invariant.j - 1)
here g c = omega (arith, c.loop-w.invariant.here, falls_more c.loop-w.invariant (omega arith) (omega arith))

-- a member that is reached has room
roomy : (g : Over) (c : Then-w-eq1 g) → c.loop-w.n < length c.args.out.now
roomy g c =
    let l = c.loop-w.invariant in
    omega (arith, falls_room l (omega arith) (omega arith) c.if-w-eq1.true c.requires.word_in_bounds, falls_long l (omega arith))

pub overflow_sub-i : goal.overflow_sub-i
overflow_sub-i g c = omega (arith, c.loop-w.invariant.here, falls_more c.loop-w.invariant (omega arith) (omega arith))

pub plus-requires : goal.plus-requires
plus-requires g c =
    let a = c.args in
    let fits = g.N.Number.kind.fits a.base in
    ap fits (here g (goal.at.plus-requires g c).In-loop-w)
    ∙ falls_fits c.loop-w.invariant (omega arith) (omega arith) (λ (k : ℕ). fits (a.from + k)) c.if-w-eq1.true c.requires.word_value

pub offset_bounds-out-n : goal.offset_bounds-out-n
offset_bounds-out-n g c = let t = roomy g (goal.at.offset_bounds-out-n g c).Then-w-eq1 in search rules

pub bounds-out-n : goal.bounds-out-n
bounds-out-n g c = omega (arith, roomy g (goal.at.bounds-out-n g c).Then-w-eq1)

pub overflow_add-n : goal.overflow_add-n
overflow_add-n g c = omega (arith, roomy g (goal.at.overflow_add-n g c).Then-w-eq1)

pub loop-w-preserved : goal.loop-w-preserved
loop-w-preserved g c =
    let l = c.loop-w in
    let e = here g (goal.at.loop-w-preserved g c).In-loop-w in
    elim c.if-w-eq1.branch [
      | then-w-eq1 w ↦
          rw (w.out-is ∙ ap (set l.out l.n) (w.plus.ensures ∙ ap (g.N.Number.kind.plus c.args.base) e), w.n-is)
          (falls_yes l.invariant (omega arith) (omega arith) w.if-w-eq1.true)
      | else-w-eq1 w ↦ rw (w.out-is, w.n-is) (falls_no l.invariant (omega arith) (omega arith) w.if-w-eq1.false)
    ]

pub returns : goal.returns
returns g c = falls_done c.loop-w.invariant (omega arith) c.loop-w-test.false
