-- What a user of the counter reads. Assumes nothing.
use Prim.Native.Nat.{◌+◌, ◌%◌}
use mathlib.Core.Path.{◌≡◌, refl}
use lib.IntN.{ℤ, pos, negsuc}
use mir.Syntax.{w32}
use mir.Val.{SFits, of_z, to_z}
use Rattle.ack_nack_counter.specs.Counter.{next_count, fresh_counter, handed_out}
use Rattle.ack_nack_counter.proofs.CounterLaws.{next_wraps}

-- "The acknack count, 0 at first, is handed out, and the call moves the caller's own counter record on where it lies"
pub count_at_first : ((handed_out fresh_counter).count ≡ pos 0) × ((handed_out fresh_counter).counter.count ≡ pos 1)
count_at_first = (refl, refl)

-- "after 2,147,483,647 comes -2,147,483,648"
pub count_at_last : next_count (pos 2147483647) ≡ negsuc 2147483647
count_at_last = refl

-- "the i32 acknack count steps by wrapping add on purpose": 1 more, modulo 2^32, read as signed
pub count_wraps : (n : ℤ) → SFits w32 n → next_count n ≡ to_z w32 ((of_z w32 n + 1) % 4294967296)
count_wraps = next_wraps
