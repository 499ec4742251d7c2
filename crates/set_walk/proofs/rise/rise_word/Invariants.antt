-- `set_walk::rise::rise_word` meets its contract: where there are members past four bits, each of the four may be stored.
-- Assumes nothing.
use Prim.Native.Nat.{◌+◌, ◌-◌}
use Rattle.set_walk.proofs.ClimbsLaws.{At}
use Rattle.set_walk.proofs.rise.rise_word.Given as goal

abbrev pub invariant-loop-w : goal.invariant-loop-w
invariant-loop-w g l = At (g.N.Number.kind.plus l.base) l.from l.word l.initial.out l.place l.out l.n l.w l.i

abbrev pub decreases-loop-w : goal.decreases-loop-w
decreases-loop-w g l = (l.from + 32) - l.i
