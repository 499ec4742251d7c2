-- `bitmap::with_mask` meets its contract: an "or" with a power of two sets its bit.
-- Assumes nothing.
use Prim.Native.Nat.{◌-◌, ◌%◌}
use native.Mathlib.Omega.{arith}
use Rattle.bitmap.proofs.BitLaws.{or_one}
use Rattle.bitmap.proofs.with_mask.Goals as goal

pub returns : goal.returns
returns c = or_one c.args.w (31 - c.args.i % 32) (omega arith)
