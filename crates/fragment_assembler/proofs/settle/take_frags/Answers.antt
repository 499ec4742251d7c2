-- `fragment_assembler::settle::take_frags` meets its contract: on a place found, or on the lowest free place, opened. Assumes nothing.
use native.Mathlib.Omega.{arith}
use mathlib.Core.Path.{sym, ◌∙◌}
use Rattle.fragment_assembler.proofs.DoesLaws.{runs_known, does_known, spare_found, clear_fits, free_in, runs_fresh, does_fresh}
use Rattle.fragment_assembler.proofs.settle.take_frags.Goals as goal

pub insert_frags-requires : goal.insert_frags-requires
insert_frags-requires c = runs_known c.requires c.in-Some.seat c.in-Some.is

pub returns-in-Some : goal.returns-in-Some
returns-in-Some c = does_known c.requires c.in-Some.seat c.in-Some.is _ _ _ c.insert_frags.ensures

-- the number stands nowhere
pub unwrap-seat-requires : goal.unwrap-seat-requires
unwrap-seat-requires c = rw c.seek.ensures (spare_found c.requires)

pub overflow_mul-seat : goal.overflow_mul-seat
overflow_mul-seat c = omega (arith, clear_fits c.requires c.in_default.is _ (sym c.unwrap-seat.ensures ∙ c.seek.ensures))

pub clear_at-requires : goal.clear_at-requires
clear_at-requires c = clear_fits c.requires c.in_default.is _ (sym c.unwrap-seat.ensures ∙ c.seek.ensures)

pub open_at-requires : goal.open_at-requires
open_at-requires c = (c.requires.good.long, free_in c.requires c.in_default.is _ (sym c.unwrap-seat.ensures ∙ c.seek.ensures))

pub insert_frags-requires-2 : goal.insert_frags-requires-2
insert_frags-requires-2 c = runs_fresh c.requires c.in_default.is _ (sym c.unwrap-seat.ensures ∙ c.seek.ensures) _ c.open_at.ensures _ c.clear_at.auto.area

pub returns : goal.returns
returns c =
    does_fresh c.requires c.in_default.is _ (sym c.unwrap-seat.ensures ∙ c.seek.ensures) _ c.open_at.ensures _ _ _ _ c.clear_at.ensures c.insert_frags-2.ensures
