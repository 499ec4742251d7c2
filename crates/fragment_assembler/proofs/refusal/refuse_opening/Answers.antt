-- `fragment_assembler::refusal::refuse_opening` meets its contract: row 9 asks whether so many fragments cover the sample. Assumes nothing.
use native.Mathlib.Omega.{arith}
use borrow.Author.Tests.{lt-ltb, le-ltb}
use Rattle.assembly_record.specs.Sizes.{most_fragments}
use Rattle.assembly_record.specs.Fragments.{fragments}
use Rattle.assembly_record.proofs.FragmentsLaws.{fragments_le, fragments_above}
use Rattle.fragment_assembler.proofs.refusal.refuse_opening.Goals as goal

pub returns-then-f-d : goal.returns-then-f-d
returns-then-f-d c =
    let x = c.args in
    rw (
      le-ltb x.d x.f c.if-d-f.false,
      le-ltb x.p x.d c.if-p-d.false,
      lt-ltb most_fragments (fragments x.d x.f) (fragments_above x.d x.f most_fragments c.requires.0 c.if-f-d.true),
    )

pub returns : goal.returns
returns c =
    let x = c.args in
    rw (
      le-ltb x.d x.f c.if-d-f.false,
      le-ltb x.p x.d c.if-p-d.false,
      le-ltb most_fragments (fragments x.d x.f) (fragments_le x.d x.f most_fragments c.requires.0 (omega (arith, c.if-f-d.false))),
    )
