-- Two answers that a public call's promise allows are equal, with every lent byte; `result_determined` serves those that lend nothing. Assumes nothing.
use Prim.Native.Nat.{ℕ}
use mathlib.Core.Path.{◌≡◌, ◌∙◌, sym}
use mathlib.Core.List.{List}
use Rattle.std.specs.Prelude.{Result}
use Rattle.outcome.proofs.Determined.{result_determined}
use Rattle.outcome.specs.declared.Refusal.{Refusal}
use Rattle.sequence_number.specs.Kind.{Kind}
use Rattle.sequence_number.specs.NumberWire.{Writes}
use Rattle.sequence_number.specs.declared.ByteOrder.{ByteOrder}

pub writes_determined : {N : Type 0} {k : Kind N} {o : ByteOrder} {n : N} {before after after' : List ℕ} {r r' : Result ℕ Refusal} → Writes k o n before r after
    → Writes k o n before r' after' → (r ≡ r') × (after ≡ after')
writes_determined {r} {r'} p q = (result_determined r r' p.answer q.answer, p.bytes ∙ sym q.bytes)
