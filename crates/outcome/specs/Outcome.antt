-- What a call says: refused, with document 01's number, or done, with what it found. Assumes nothing.
use Rattle.std.specs.Prelude.{ℕ, Bool, true, false, List}
use Rattle.outcome.specs.Lent.{over}

pub data Outcome (A : Type 0) : Type 0 where
  refused : ℕ → Outcome A
  done : A → Outcome A

-- the refusal number, or 0 for a call that was accepted
abbrev pub refusal : {A : Type 0} → Outcome A → ℕ
refusal (refused n) = n
refusal (done a) = 0

-- whether a call was refused, read off what it says
abbrev pub is_refused : {A : Type 0} → Outcome A → Bool
is_refused (refused n) = true
is_refused (done a) = false

-- what is found is made into something else; a refusal stays
abbrev pub found : {A B : Type 0} → (A → B) → Outcome A → Outcome B
found f (refused n) = refused n
found f (done a) = done (f a)

-- "Every refusal returns its number alone and leaves .. output untouched": what stands in the lent output after a call
abbrev pub left : {A B : Type 0} → Outcome A → List B → List B → List B
left (refused n) answer out = out
left (done a) answer out = over answer out
