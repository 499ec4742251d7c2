-- `assembly_record::rows::wipe_at` meets its contract: the row that is lent comes back as a free place. Assumes nothing.
use borrow.Author.Rules.{rules}
use Rattle.assembly_record.proofs.RowLaws.{wiped_row}
use Rattle.assembly_record.proofs.WordsLaws.{lent_as, row_long}
use Rattle.assembly_record.proofs.rows.wipe_at.Goals as goal

pub returns : goal.returns
returns c =
    let a = c.args in
    lent_as a.t.now a.seat c.requires.1 c.fill.new.self _ c.requires.0 c.fill.ensures.len
    (wiped_row _ c.fill.new.self (row_long a.t.now a.seat c.requires.1 c.requires.0) (search rules))
