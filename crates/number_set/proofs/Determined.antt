-- Two answers that a public call's promise allows are equal, with every lent byte and entry; `result_determined` serves those that lend nothing. Assumes nothing.
use Prim.Native.Nat.{ℕ}
use mathlib.Core.Path.{◌≡◌, ◌∙◌, sym}
use mathlib.Core.Bool.{Bool}
use mathlib.Core.List.{List}
use Rattle.std.specs.Prelude.{Result}
use Rattle.outcome.specs.declared.Refusal.{Refusal}
use Rattle.outcome.proofs.Determined.{result_determined}
use Rattle.sequence_number.specs.Kind.{Kind}
use Rattle.sequence_number.specs.declared.ByteOrder.{ByteOrder}
use Rattle.number_set.specs.declared.set.NumberSet.{NumberSet}
use Rattle.number_set.specs.SetWire.{WritesSet}
use Rattle.number_set.specs.Walk.{Walks}

pub writes_set_determined : {N : Type 0} {k : Kind N} {o : ByteOrder} {s : NumberSet N} {before after after' : List ℕ} {r r' : Result ℕ Refusal}
    → WritesSet k o s before r after → WritesSet k o s before r' after' → (r ≡ r') × (after ≡ after')
writes_set_determined {r} {r'} p q = (result_determined r r' p.answer q.answer, p.bytes ∙ sym q.bytes)

pub walks_determined : {N : Type 0} {k : Kind N} {s : NumberSet N} {up : Bool} {before after after' : List N} {r r' : Result ℕ Refusal}
    → Walks k s up before r after → Walks k s up before r' after' → (r ≡ r') × (after ≡ after')
walks_determined {r} {r'} p q = (result_determined r r' p.answer q.answer, p.entries ∙ sym q.entries)
