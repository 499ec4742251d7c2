use native.Mathlib.Omega.{arith}
use mathlib.Core.Path.{ap, ◌∙◌}
use Rattle.assembly_record.proofs.TableLaws.{counted_down, counted_none}
use Rattle.assembly_record.specs.Table.{in_assembly, is_taken}
use Rattle.fragment_assembler.proofs.query.in_assembly.Goals as goal

pub loop-i-init : goal.loop-i-init
loop-i-init c = counted_none is_taken c.rows-rows.result.now 129 (omega arith)

pub returns : goal.returns
returns c =
    c.loop-i.invariant
    ∙ counted_down is_taken c.rows-rows.result.now c.loop-i.i (omega arith)
    ∙ ap in_assembly c.rows-rows.ensures.places
