-- `fragment_assembler::refusal::refuse_run` meets its contract: row 12 asks whether the last fragment starts before the sample's end. Assumes nothing.
use Prim.Native.Nat.{◌+◌, ◌-◌}
use native.Mathlib.Omega.{arith}
use Rattle.assembly_record.proofs.FragmentsLaws.{fragments_le, fragments_above}
use Rattle.fragment_assembler.proofs.RefusalLaws.{run_12, run_passes}
use Rattle.fragment_assembler.proofs.refusal.refuse_run.Goals as goal

pub returns-then-d-last : goal.returns-then-d-last
returns-then-d-last c =
    let x = c.args in
    run_12 _ _ _ c.if-count-eq0.false c.if-start-eq0.false
    (omega (arith, fragments_le x.d x.f (x.start - 1 + (x.count - 1)) c.requires.0 c.if-d-last.true, c.if-count-eq0.false))

pub returns : goal.returns
returns c =
    let x = c.args in
    run_passes _ _ _ c.if-count-eq0.false c.if-start-eq0.false
    (omega (arith, fragments_above x.d x.f (x.start - 1 + (x.count - 1)) c.requires.0 (omega (arith, c.if-d-last.false)), c.if-count-eq0.false))
