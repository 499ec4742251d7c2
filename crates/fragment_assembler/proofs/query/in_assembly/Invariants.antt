-- `fragment_assembler::query::in_assembly` meets its contract: n counts the numbers of the rows from i on. Assumes nothing.
use mathlib.Core.Path.{◌≡◌}
use lib.ListN.{drop}
use Rattle.std.specs.List.{count_by}
use Rattle.assembly_record.specs.Table.{is_taken}
use Rattle.assembly_record.specs.Words.{place_of}
use Rattle.fragment_assembler.proofs.query.in_assembly.Given as goal

abbrev pub invariant-loop-i : goal.invariant-loop-i
invariant-loop-i l = l.n ≡ count_by (λ r. is_taken (place_of r)) (drop l.i l.rows)
