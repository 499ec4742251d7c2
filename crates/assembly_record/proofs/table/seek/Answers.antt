-- `assembly_record::table::seek` meets its contract: what is found below 129 is a place. Assumes nothing.
use mathlib.Core.Path.{refl, sym, ◌∙◌}
use lib.Dec.{ltb}
use Rattle.outcome.proofs.Split.{split}
use Rattle.assembly_record.specs.Sizes.{place_count}
use Rattle.assembly_record.proofs.WordsLaws.{length_places}
use Rattle.assembly_record.specs.Table.{has_number}
use Rattle.assembly_record.proofs.table.seek.Goals as goal

pub returns : goal.returns
unfolding has_number
returns c =
    rw (sym c.first-at.ensures, length_places c.args.t.now)
    (c.then_some.ensures ∙ split (ltb c.first-at.result place_count) (λ e. rw e refl) (λ e. rw e refl))
