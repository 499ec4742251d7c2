-- `set_walk::fall::fall_word` meets its contract: the bits from i on are walked, and w has the others.
-- Assumes nothing.
use Prim.Native.Nat.{ℕ, ◌+◌}
use Rattle.set_walk.proofs.FallsLaws.{Falls}
use Rattle.set_walk.proofs.fall.fall_word.Given as goal

abbrev pub invariant-loop-w : goal.invariant-loop-w
invariant-loop-w g l = Falls (λ (k : ℕ). g.N.Number.kind.plus l.base (l.from + k)) l.from l.word l.initial.out l.place l.out l.n l.w l.i

abbrev pub decreases-loop-w : goal.decreases-loop-w
decreases-loop-w g l = l.w
