-- `assembly_record::marks::list_gaps` meets its contract: the gaps among the first i marks stand in front, and past them what was there. Assumes nothing.
use mathlib.Core.Path.{◌≡◌}
use lib.ListN.{length}
use Rattle.outcome.specs.Lent.{over}
use Rattle.assembly_record.specs.Marks.{gaps}
use Rattle.assembly_record.proofs.marks.list_gaps.Given as goal

abbrev pub invariant-loop-i : goal.invariant-loop-i
invariant-loop-i l = (l.k ≡ length (gaps l.m l.i)) × (l.out ≡ over (gaps l.m l.i) l.initial.out)
