-- `assembly_record::table::highest` meets its contract: the highest of the rows' numbers. Assumes nothing.
use Prim.Native.Nat.{ℕ}
use mathlib.Core.Path.{sym, ap, ◌∙◌}
use borrow.Author.Rules.{rules}
use borrow.Author.Tests.{tests}
use Rattle.std.specs.Prelude.{Option, unwrap_or}
use Rattle.std.proofs.lemmas.Iterator.{YieldsList-from_slice, YieldsList-from_map}
use Rattle.std.proofs.lemmas.Iterator.Adapters.{option_map_id}
use Rattle.std.proofs.lemmas.Iterator.Consumers.{max_from_yields_List, YieldsList-at}
use Rattle.assembly_record.proofs.TableLaws.{highest_rows, row_number}
use Rattle.assembly_record.specs.Table.{highest_of}
use Rattle.assembly_record.proofs.table.highest.Goals as goal

pub returns : goal.returns
returns c =
    c.unwrap_or.ensures ∙ ap (λ (o : Option ℕ). unwrap_or o 0)
    (sym (option_map_id _)
    ∙ max_from_yields_List c.map.result c.max.result c.max.ensures.ran
    (YieldsList-from_map _ row_number (YieldsList-at c.map.ensures.source (YieldsList-from_slice c.rows.result.now cc)) c.map.ensures.closure (λ x r q k. search (rules, tests))))
    ∙ highest_rows c.rows.result.now
    ∙ ap highest_of c.rows.ensures.places
