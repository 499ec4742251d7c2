-- `set_walk::first_bits` meets its contract: what is shifted out and back is lost.
-- Assumes nothing.
use mathlib.Core.Path.{refl}
use native.Mathlib.Omega.{arith}
use Rattle.set_walk.proofs.FirstBitsLaws.{first_some}
use Rattle.set_walk.proofs.first_bits.Goals as goal

pub returns : goal.returns
returns c = first_some _ _ _ (omega arith) refl (omega arith)
