-- `assembly_record::marks::mark_run` meets its contract: the marks before j are those of a run up to j. Assumes nothing.
use Prim.Native.Nat.{◌-◌}
use mathlib.Core.Path.{◌≡◌}
use Rattle.assembly_record.specs.Marks.{mark_run}
use Rattle.assembly_record.proofs.marks.mark_run.Given as goal

abbrev pub invariant-loop-j : goal.invariant-loop-j
invariant-loop-j l = l.m ≡ mark_run l.initial.m l.k (l.j - l.k)
