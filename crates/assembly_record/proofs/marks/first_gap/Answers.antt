use Prim.Native.Nat.{◌-◌}
use native.Mathlib.Omega.{arith}
use lib.ListN.{get_or}
use Rattle.assembly_record.proofs.FirstGapLaws.{gap_further, gap_found}
use Rattle.assembly_record.proofs.marks.first_gap.Goals as goal

pub returns-then-word : goal.returns-then-word
returns-then-word c =
    let m = c.args.m.now in
    let i = c.loop-i.i in
    rw c.trailing_ones.ensures (gap_found m i (18446744073709551615 - get_or m i 0) (omega (arith, c.type_inv.m i)) c.loop-i.invariant (omega arith) (λ z. c.if-word.true (omega (arith, c.type_inv.m i))))

pub loop-i-preserved : goal.loop-i-preserved
loop-i-preserved c = gap_further c.args.m.now c.loop-i.i 0 (omega arith) c.loop-i.invariant (omega arith)
