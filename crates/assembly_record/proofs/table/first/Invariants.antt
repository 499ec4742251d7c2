-- `assembly_record::table::first` meets its contract: no row passed has the number. Assumes nothing.
use Prim.Native.Nat.{ℕ, ◌<◌}
use mathlib.Core.Path.{◌≡◌}
use mathlib.Core.List.{[]}
use lib.ListN.{get_or}
use Rattle.assembly_record.proofs.TableLaws.{row_number}
use Rattle.assembly_record.proofs.table.first.Given as goal

abbrev pub invariant-loop-i : goal.invariant-loop-i
invariant-loop-i l = (j : ℕ) → j < l.i → row_number (get_or l.row-items j []) ≡ l.n → ⊥
