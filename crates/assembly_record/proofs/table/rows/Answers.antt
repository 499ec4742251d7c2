-- `assembly_record::table::rows` meets its contract: row by row the parts are those that the layout names. Assumes nothing.
use mathlib.Core.Path.{refl}
use Rattle.assembly_record.proofs.WordsLaws.{chunks_places}
use Rattle.assembly_record.proofs.table.rows.Goals as goal

pub returns-clause-places : goal.returns-clause-places
returns-clause-places c = chunks_places c.args.t.now _ 903 refl c.requires c.as_chunks.ensures.front
