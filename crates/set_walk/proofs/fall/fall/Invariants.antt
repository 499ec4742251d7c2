-- `set_walk::fall::fall` meets its contract: the members of the words from k on are written, the highest first.
-- Assumes nothing.
use Prim.Native.Nat.{◌*◌, min}
use Rattle.set_walk.proofs.FallingLaws.{Falling}
use Rattle.set_walk.proofs.fall.fall.Given as goal

abbrev pub invariant-loop-k : goal.invariant-loop-k
invariant-loop-k g l = Falling (g.N.Number.kind.plus l.base) l.words l.count l.initial.out 0 l.out l.n (min (32 * l.k) l.count)
