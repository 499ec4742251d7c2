-- `set_walk::rise::rise_rest` meets its contract: while something is left of the word a member is to come, whose place may hold any number.
-- Assumes nothing.
use Prim.Native.Nat.{◌+◌, ◌-◌}
use Rattle.set_walk.proofs.ClimbsLaws.{At}
use Rattle.set_walk.proofs.rise.rise_rest.Given as goal

abbrev pub invariant-loop-w : goal.invariant-loop-w
invariant-loop-w g l = At (g.N.Number.kind.plus l.base) l.from l.word l.initial.out l.place l.out l.n l.w l.i

abbrev pub decreases-loop-w : goal.decreases-loop-w
decreases-loop-w g l = (l.from + 32) - l.i
