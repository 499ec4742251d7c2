-- `assembly_record::table::lowest` meets its contract: the lowest of the rows' numbers. Assumes nothing.
use Prim.Native.Nat.{ℕ}
use mathlib.Core.Path.{sym, ap, ◌∙◌}
use borrow.Author.Rules.{rules}
use borrow.Author.Tests.{tests}
use Rattle.std.specs.Prelude.{Option, unwrap_or}
use Rattle.std.proofs.lemmas.Iterator.{YieldsList-from_slice, YieldsList-from_map}
use Rattle.std.proofs.lemmas.Iterator.Adapters.{option_map_id}
use Rattle.std.proofs.lemmas.Iterator.Consumers.{min_from_yields_List, YieldsList-at}
use Rattle.assembly_record.proofs.TableLaws.{lowest_rows, row_number}
use Rattle.assembly_record.specs.Table.{lowest_of}
use Rattle.assembly_record.proofs.table.lowest.Goals as goal

pub returns : goal.returns
returns c =
    c.unwrap_or.ensures ∙ ap (λ (o : Option ℕ). unwrap_or o 0)
    (sym (option_map_id _)
    ∙ min_from_yields_List c.map.result c.min.result c.min.ensures.ran
    (YieldsList-from_map _ row_number (YieldsList-at c.map.ensures.source (YieldsList-from_slice c.rows.result.now cc)) c.map.ensures.closure (λ x r q k. search (rules, tests))))
    ∙ lowest_rows c.rows.result.now
    ∙ ap lowest_of c.rows.ensures.places
