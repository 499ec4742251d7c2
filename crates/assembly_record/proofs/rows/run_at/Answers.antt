-- `assembly_record::rows::run_at` meets its contract: the row that is lent stands for the place, and comes back as the place after the run. Assumes nothing.
use mathlib.Core.Path.{ap, ◌∙◌}
use Rattle.assembly_record.proofs.WordsLaws.{lent_as, row_is}
use Rattle.assembly_record.specs.Rows.{place_ran}
use Rattle.assembly_record.specs.State.{Place}
use Rattle.assembly_record.proofs.rows.run_at.Goals as goal

pub returns : goal.returns
returns c =
    let a = c.args in
    lent_as a.t.now a.seat c.requires.1.0 c.run_row.new.row _ c.requires.0 c.run_row.auto.row
    (c.run_row.ensures ∙ ap (λ (p : Place). place_ran p a.run.number a.run.time a.run.first a.run.count) (row_is a.t.now a.seat c.requires.1.0))
