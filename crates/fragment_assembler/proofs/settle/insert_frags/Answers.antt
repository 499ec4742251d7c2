-- `fragment_assembler::settle::insert_frags` meets its contract: the bytes that the run brings lie in the place, and the words are the place's after the run. Assumes nothing.
use Rattle.fragment_assembler.proofs.WorkedLaws.{run_under, run_brings, run_end, run_closes, worked}
use Rattle.fragment_assembler.proofs.settle.insert_frags.Goals as goal

pub overflow_sub-d : goal.overflow_sub-d
overflow_sub-d c = run_under c.requires c.rows.result.now c.rows.ensures.places c.rows.ensures.long

pub copy_at-requires : goal.copy_at-requires
copy_at-requires c =
    run_end c.requires _ (run_brings c.requires c.rows.result.now c.rows.ensures.places c.rows.ensures.long _ _ c.min.ensures c.min-b.ensures)

pub close-requires : goal.close-requires
close-requires c = run_closes c.requires _ c.run_at.ensures

pub returns : goal.returns
returns c =
    worked c.requires _ c.run_at.ensures c.args.area.now _ _ _ _
    (run_brings c.requires c.rows.result.now c.rows.ensures.places c.rows.ensures.long _ _ c.min.ensures c.min-b.ensures)
    c.copy_at.ensures c.close.ensures
