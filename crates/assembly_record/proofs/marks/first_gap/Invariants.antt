-- `assembly_record::marks::first_gap` meets its contract: in the words passed every mark is set. Assumes nothing.
use Prim.Native.Nat.{ℕ, ◌*◌, ◌<◌}
use mathlib.Core.Path.{◌≡◌}
use mathlib.Core.Bool.{true}
use Rattle.assembly_record.specs.Marks.{marked}
use Rattle.assembly_record.proofs.marks.first_gap.Given as goal

abbrev pub invariant-loop-i : goal.invariant-loop-i
invariant-loop-i l = (j : ℕ) → j < 64 * l.i → marked l.m j ≡ true
