-- `assembly_record::marks::count_gaps` meets its contract: k counts the gaps among the first j marks. Assumes nothing.
use Prim.Native.Nat.{◌≤◌}
use mathlib.Core.Path.{◌≡◌}
use lib.ListN.{length}
use Rattle.assembly_record.specs.Marks.{gaps}
use Rattle.assembly_record.proofs.marks.count_gaps.Given as goal

abbrev pub invariant-loop-j : goal.invariant-loop-j
invariant-loop-j l = (l.k ≡ length (gaps l.m l.j)) × (l.k ≤ l.j)
