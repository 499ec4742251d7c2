-- `fragment_assembler::view::view` meets its contract: the part is shown, or the empty one. Assumes nothing.
use mathlib.Core.Path.{sym, ◌∙◌}
use Rattle.assembly_record.specs.Words.{assembler_of}
use Rattle.fragment_assembler.proofs.ViewLaws.{shown_part, no_part}
use Rattle.fragment_assembler.proofs.view.view.Goals as goal

pub returns-in-Some : goal.returns-in-Some
returns-in-Some c =
    let x = c.args in
    shown_part (assembler_of x.t.now) x.area.now x.place x.length c.in-Some.at (sym c.in-Some.is ∙ c.shown_from.ensures)

pub returns-in-None : goal.returns-in-None
returns-in-None c =
    let x = c.args in
    no_part (assembler_of x.t.now) x.area.now x.place x.length (sym c.in-None.is ∙ c.shown_from.ensures)
