-- `fragment_assembler::view::view_start` meets its contract: where the part is shown, its place begins. Assumes nothing.
use Prim.Native.Nat.{ℕ}
use mathlib.Core.Path.{ap, ◌∙◌}
use Rattle.std.specs.Prelude.{Option, unwrap_or}
use Rattle.assembly_record.specs.Words.{assembler_of}
use Rattle.fragment_assembler.proofs.ViewLaws.{shown_start}
use Rattle.fragment_assembler.proofs.view.view_start.Goals as goal

pub returns : goal.returns
returns c =
    let x = c.args in
    c.unwrap_or.ensures ∙ ap (λ (o : Option ℕ). unwrap_or o 0) c.shown_from.ensures ∙ shown_start (assembler_of x.t.now) x.long x.place x.length
