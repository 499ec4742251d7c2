-- `fragment_assembler::missing::missing_frags_for` meets its contract: the gaps of the place where the number stands. Assumes nothing.
use native.Mathlib.Omega.{arith}
use mathlib.Core.Path.{sym, ◌∙◌}
use Rattle.assembly_record.proofs.WordsLaws.{length_places}
use Rattle.assembly_record.specs.Words.{places_of}
use Rattle.fragment_assembler.proofs.MissingLaws.{misses_as, missing_none, place_some, missing_asks, missing_short, missing_done}
use Rattle.fragment_assembler.proofs.RefusalLaws.{number_same}
use Rattle.fragment_assembler.proofs.missing.missing_frags_for.Goals as goal

pub returns-in_default : goal.returns-in_default
returns-in_default c =
    misses_as c.args.t.now c.args.out.now _ _ (number_same c.args.number c.ranges.number) (missing_none c.args.t.now _ c.args.out.now (sym c.in_default.is ∙ c.place.ensures))

pub offset_bounds-rows-seat : goal.offset_bounds-rows-seat
offset_bounds-rows-seat c =
    omega (arith, (place_some _ _ (places_of c.args.t.now) (sym c.in-Some.is ∙ c.place.ensures)).2, length_places c.args.t.now)

pub bounds-rows-seat : goal.bounds-rows-seat
bounds-rows-seat c =
    omega (arith, (place_some _ _ (places_of c.args.t.now) (sym c.in-Some.is ∙ c.place.ensures)).2, length_places c.args.t.now, c.rows.ensures.long)

pub count_gaps-k-requires : goal.count_gaps-k-requires
count_gaps-k-requires c = missing_asks c.args.t.now _ _ _ c.rows.result.now (sym c.in-Some.is ∙ c.place.ensures) c.rows.ensures.places c.rows.ensures.long (omega arith) c.count_of-f.ensures c.requires

pub returns-then-out-k : goal.returns-then-out-k
returns-then-out-k c =
    misses_as c.args.t.now c.args.out.now _ _ (number_same c.args.number c.ranges.number)
    (missing_short c.args.t.now _ _ _ c.rows.result.now (sym c.in-Some.is ∙ c.place.ensures) c.rows.ensures.places c.rows.ensures.long (omega arith) c.count_of-f.ensures c.args.out.now _ c.count_gaps-k.ensures c.if-out-k.true)

pub list_gaps-requires : goal.list_gaps-requires
list_gaps-requires c =
    let x = missing_asks c.args.t.now _ _ _ c.rows.result.now (sym c.in-Some.is ∙ c.place.ensures) c.rows.ensures.places c.rows.ensures.long (omega arith) c.count_of-f.ensures c.requires in
    (x.0, (x.1, omega (arith, c.count_gaps-k.ensures, c.if-out-k.false)))

pub returns : goal.returns
returns c =
    misses_as c.args.t.now c.args.out.now _ _ (number_same c.args.number c.ranges.number)
    (missing_done c.args.t.now _ _ _ c.rows.result.now (sym c.in-Some.is ∙ c.place.ensures) c.rows.ensures.places c.rows.ensures.long (omega arith) c.count_of-f.ensures c.args.out.now _ c.count_gaps-k.ensures _ c.if-out-k.false c.list_gaps.ensures)
