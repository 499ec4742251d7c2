-- `fragment_assembler::settle::drop_one` meets its contract: a free place means that fewer than 129 are in assembly. Assumes nothing.
use native.Mathlib.Omega.{arith}
use mathlib.Core.Path.{sym, ap, ◌∙◌}
use lib.ListN.{get_or}
use lib.Dec.{eqb}
use Rattle.std.specs.Prelude.{is_some}
use Rattle.assembly_record.proofs.TableLaws.{found_yes, found_no, found_some}
use Rattle.assembly_record.proofs.WordsLaws.{length_places}
use Rattle.assembly_record.specs.Words.{places_of}
use Rattle.fragment_assembler.proofs.EndsLaws.{ends_kept, victim_some, victim_in, ends_dropped}
use Rattle.fragment_assembler.proofs.settle.drop_one.Goals as goal

pub returns-then-is_some : goal.returns-then-is_some
returns-then-is_some c =
    let w = c.args.t.now in
    ends_kept w _ c.requires
    (omega (arith, found_yes 0 (places_of w) (ap is_some (sym c.seek.ensures) ∙ sym c.is_some.ensures ∙ c.if-is_some.true), length_places w))

pub unwrap-at-requires : goal.unwrap-at-requires
unwrap-at-requires c =
    let w = c.args.t.now in
    rw c.seek-2.ensures (victim_some w (eqb (get_or w 2 0) 1) _ c.pick_victim-v.ensures)

pub wipe_at-requires : goal.wipe_at-requires
wipe_at-requires c =
    let w = c.args.t.now in
    (c.requires, victim_in w (eqb (get_or w 2 0) 1) _ _ c.pick_victim-v.ensures (found_some c.pick_victim-v.result (places_of w) c.unwrap-at.result (sym c.unwrap-at.ensures ∙ c.seek-2.ensures)).0)

pub returns : goal.returns
returns c =
    let w = c.args.t.now in
    ends_dropped w _ _ _ _
    (omega (arith, found_no 0 (places_of w) (ap is_some (sym c.seek.ensures) ∙ sym c.is_some.ensures ∙ c.if-is_some.false), length_places w))
    c.pick_victim-v.ensures (found_some c.pick_victim-v.result (places_of w) c.unwrap-at.result (sym c.unwrap-at.ensures ∙ c.seek-2.ensures)).0 c.wipe_at.ensures
