-- Laws of `specs/Exports.antt`: two answers that a promise allows are equal. Assumes nothing.
use Prim.Native.Nat.{ℕ}
use mathlib.Core.Path.{◌≡◌, ◌∙◌, sym}
use mathlib.Core.List.{List}
use Rattle.outcome.specs.Outcome.{Outcome}
use Rattle.drucenal.specs.Exports.{Gives, Lends}

pub gives_determined : {A : Type 0} {x : Outcome A} {before after after' : A} {r r' : ℕ} → Gives x before r after → Gives x before r' after'
    → (r ≡ r') × (after ≡ after')
gives_determined p q = (p.answer ∙ sym q.answer, p.value ∙ sym q.value)

pub lends_determined : {A B : Type 0} {x : Outcome A} {ms out after after' : List B} {r r' : ℕ} → Lends x ms out r after → Lends x ms out r' after'
    → (r ≡ r') × (after ≡ after')
lends_determined p q = (p.answer ∙ sym q.answer, p.entries ∙ sym q.entries)
