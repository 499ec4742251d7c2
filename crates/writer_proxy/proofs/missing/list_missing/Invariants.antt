-- `writer_proxy::missing::list_missing` meets its contract: what is written so far is what is missing below n, and i is n's place.
-- Assumes nothing.
use Rattle.writer_proxy.proofs.MissingInPlace.{SoFar}
use Rattle.writer_proxy.proofs.missing.list_missing.Given as goal

abbrev pub invariant-loop-n : goal.invariant-loop-n
invariant-loop-n l = SoFar l.t l.lo l.hi l.initial.out l.out l.i l.w l.n
