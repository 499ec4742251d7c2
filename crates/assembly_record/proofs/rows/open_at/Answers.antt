-- `assembly_record::rows::open_at` meets its contract: the row that is lent comes back as the opened place. Assumes nothing.
use mathlib.Core.Path.{ap}
use Rattle.assembly_record.proofs.WordsLaws.{lent_as}
use Rattle.assembly_record.specs.Words.{place_of}
use Rattle.assembly_record.proofs.rows.open_at.Goals as goal

pub returns : goal.returns
returns c =
    lent_as c.args.t.now c.args.seat c.requires.1 c.open_row.new.row _ c.requires.0 c.open_row.auto.row (ap place_of c.open_row.ensures)
