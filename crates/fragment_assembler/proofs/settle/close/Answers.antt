-- `fragment_assembler::settle::close` meets its contract: the place is whole and freed, or one number goes, or nothing does. Assumes nothing.
use native.Mathlib.Omega.{arith}
use mathlib.Core.Path.{sym, ap, ◌∙◌}
use mathlib.Core.List.{[]}
use Rattle.assembly_record.proofs.WordsLaws.{row_place}
use Rattle.assembly_record.specs.State.{Place}
use Rattle.assembly_record.specs.Words.{places_of}
use Rattle.fragment_assembler.proofs.EndsLaws.{ends_whole, ends_not, ends_kept}
use Rattle.fragment_assembler.proofs.settle.close.Goals as goal

pub returns-then-whole_at : goal.returns-then-whole_at
returns-then-whole_at c =
    let w = c.args.t.now in
    let i = c.args.seat in
    let p = row_place c.rows.result.now (places_of w) i [] c.rows.ensures.places (omega (arith, c.rows.ensures.long, c.requires.within)) in
    ends_whole w i _ _ _ (sym c.whole_at.ensures ∙ c.if-whole_at.true) (ap (λ (q : Place). q.number) p) (ap (λ (q : Place). q.size) p) c.wipe_at.ensures

pub returns-then-opened : goal.returns-then-opened
returns-then-opened c =
    ends_not c.args.t.now c.args.seat _ _ (sym c.whole_at.ensures ∙ c.if-whole_at.false) c.drop_one.ensures

pub returns-else-opened : goal.returns-else-opened
returns-else-opened c =
    ends_not c.args.t.now c.args.seat _ _ (sym c.whole_at.ensures ∙ c.if-whole_at.false)
    (ends_kept c.args.t.now _ c.requires.long (c.requires.spare c.if-opened.false))
