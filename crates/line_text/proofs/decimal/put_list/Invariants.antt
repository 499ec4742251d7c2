-- `line_text::decimal::put_list` meets its contract: the numbers so far are written, and none takes more than twenty bytes with its space. Assumes nothing.
use Rattle.std.proofs.Common.{◌≡◌, ◌*◌, ◌≤◌, map, take, length}
use Rattle.outcome.specs.Lent.{over}
use Rattle.sequence_number.specs.Number.{nat_of}
use Rattle.line_text.specs.Decimal.{spaced}
use Rattle.line_text.proofs.decimal.put_list.Given as goal

abbrev pub invariant-loop-n : goal.invariant-loop-n
invariant-loop-n l =
    (l.out ≡ over (spaced (map nat_of (take l.n-index l.list))) l.initial.out) × (l.end ≡ length (spaced (map nat_of (take l.n-index l.list)))) × (l.end ≤ 20 * l.n-index)
