-- `assembly_record::marks::is_marked` meets its contract: the shift and the rest are the definition. Assumes nothing.
use borrow.Author.Rules.{rules}
use Rattle.assembly_record.specs.Marks.{marked}
use Rattle.assembly_record.proofs.marks.is_marked.Goals as goal

pub returns : goal.returns
unfolding marked
returns c = search rules
