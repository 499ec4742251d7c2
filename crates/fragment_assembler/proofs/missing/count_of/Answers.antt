-- `fragment_assembler::missing::count_of` meets its contract: the quotient, rounded up, is the definition. Assumes nothing.
use Prim.Native.Nat.{◌%◌}
use native.Mathlib.Omega.{arith}
use mathlib.Core.Path.{sym, ◌∙◌}
use lib.Dec.{eqb}
use borrow.Author.Tests.{eqb-true, eqb-false}
use Rattle.outcome.proofs.Split.{split}
use Rattle.assembly_record.proofs.FragmentsLaws.{fragments_on_paper_lem}
use Rattle.fragment_assembler.proofs.missing.count_of.Goals as goal

pub returns : goal.returns
returns c =
    let x = c.args in
    c.div_ceil.ensures
    ∙ split (eqb (x.d % x.f) 0)
    (λ t. let z = eqb-true (x.d % x.f) 0 t in rw t (omega arith))
    (λ t. let z = eqb-false (x.d % x.f) 0 t in rw t (omega arith))
    ∙ sym (fragments_on_paper_lem x.d x.f c.requires)
