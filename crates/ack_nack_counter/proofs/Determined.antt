-- Two answers that a call's promise allows are equal. Assumes nothing.
use mathlib.Core.Path.{◌≡◌}
use lib.IntN.{ℤ}
use Rattle.outcome.proofs.Determined.{equal_determined}
use Rattle.ack_nack_counter.specs.Counter.{next_count, handed_out}
use Rattle.ack_nack_counter.specs.declared.AckNackCounter.{AckNackCounter}
use Rattle.ack_nack_counter.specs.declared.HandedOut.{HandedOut}

-- the promise of `new` is an equation, and `equal_determined` serves it as it is
pub count_determined : (c : AckNackCounter) {r r' : HandedOut} → r ≡ handed_out c → r' ≡ handed_out c → r ≡ r'
count_determined c = equal_determined

pub count_in_place_determined : (c : AckNackCounter) {r r' : ℤ} {o o' : AckNackCounter} → (r ≡ c.count) × (o ≡ (handed_out c).counter)
    → (r' ≡ c.count) × (o' ≡ (handed_out c).counter) → (r ≡ r') × (o ≡ o')
count_in_place_determined c a b = (equal_determined a.0 b.0, equal_determined a.1 b.1)

pub count_plain_determined : (n : ℤ) {r r' o o' : ℤ} → (r ≡ n) × (o ≡ next_count n) → (r' ≡ n) × (o' ≡ next_count n) → (r ≡ r') × (o ≡ o')
count_plain_determined n a b = (equal_determined a.0 b.0, equal_determined a.1 b.1)
