-- `known_values::open_all` meets its contract: each call keeps the rules that the next one asks for. Assumes nothing.
use Rattle.assembly_record.specs.Rules.{GoodAssembler}
use Rattle.known_values.proofs.open_all.Given as goal

abbrev pub invariant-loop-i : goal.invariant-loop-i
invariant-loop-i l = GoodAssembler l.t
