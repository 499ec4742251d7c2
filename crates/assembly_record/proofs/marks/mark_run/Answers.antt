use Rattle.assembly_record.proofs.MarksLaws.{run_more}
use Rattle.assembly_record.proofs.marks.mark_run.Goals as goal

pub loop-j-preserved : goal.loop-j-preserved
loop-j-preserved c = run_more c.args.m.now c.loop-j.m c.args.k c.loop-j.j c.loop-j.auto.j c.loop-j.invariant
