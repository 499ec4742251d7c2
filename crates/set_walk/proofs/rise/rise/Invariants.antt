-- `set_walk::rise::rise` meets its contract: the members of the words below k are written, one after the other.
-- Assumes nothing.
use Prim.Native.Nat.{◌*◌, min}
use Rattle.set_walk.proofs.RisingLaws.{Rising}
use Rattle.set_walk.proofs.rise.rise.Given as goal

abbrev pub invariant-loop-k : goal.invariant-loop-k
invariant-loop-k g l = Rising (g.N.Number.kind.plus l.base) l.words l.count l.initial.out l.out l.n (min (32 * l.k) l.count)
