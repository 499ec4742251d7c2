use native.Mathlib.Omega.{arith}
use mathlib.Core.Path.{ap, ◌∙◌}
use Rattle.assembly_record.proofs.TableLaws.{first_row}
use Rattle.assembly_record.specs.Table.{find}
use Rattle.assembly_record.proofs.table.first.Goals as goal

pub returns-then-row-n : goal.returns-then-row-n
returns-then-row-n c =
    first_row c.args.n c.loop-i.i c.rows-row-items.result.now (omega arith) c.loop-i.invariant (λ l. c.if-row-n.true)
    ∙ ap (find c.args.n) c.rows-row-items.ensures.places

pub returns : goal.returns
returns c =
    first_row c.args.n 129 c.rows-row-items.result.now (omega arith) (λ j l. c.loop-i.invariant j (omega arith)) (λ l. absurd (omega arith))
    ∙ ap (find c.args.n) c.rows-row-items.ensures.places
