-- A row of document 01's table of refusals, and what a table of rows says of a call: the first row that holds is the one that is given. Assumes nothing.
use Rattle.std.specs.Prelude.{ℕ, zero, suc, ◌<◌, ◌≡◌, ◌⊎◌, ◌↔◌, List, [], ◌∷◌, length}
use Rattle.outcome.specs.Outcome.{Outcome, refused, done}

-- a row: its number, and its condition, which stands under "Given exactly when"
pub record Row : Type 1 where
  pub number : ℕ
  pub condition : Type 0

abbrev pub row : ℕ → Type 0 → Row
row n condition = record { number = n; condition = condition }

-- a row with the number n holds, and no row before it does
abbrev pub GivenBy : ℕ → List Row → Type 0
GivenBy n [] = ⊥
GivenBy n (r ∷ rows) = ((r.number ≡ n) × r.condition) ⊎ ((r.condition → ⊥) × GivenBy n rows)

abbrev pub NoneHolds : List Row → Type 0
NoneHolds [] = Unit {0}
NoneHolds (r ∷ rows) = (r.condition → ⊥) × NoneHolds rows

-- the numbers in their order
abbrev pub row_numbers : List Row → List ℕ
row_numbers [] = []
row_numbers (r ∷ rows) = r.number ∷ row_numbers rows

-- accepted, whatever was found
abbrev pub accepted : Outcome (Unit {0})
accepted = done tt

-- what a call says, less what it found
abbrev pub verdict : {A : Type 0} → Outcome A → Outcome (Unit {0})
verdict (refused n) = refused n
verdict (done a) = accepted

-- what a number alone says, 0 where the call is accepted
abbrev pub numbered : ℕ → Outcome (Unit {0})
numbered zero = accepted
numbered (suc n) = refused (suc n)

-- "Given exactly when": refused with n if and only if row n holds and none earlier in the order; accepted if and only if none holds
pub record Exactly (v : Outcome (Unit {0})) (rows : List Row) : Type 0 where
  pub refused_with : (n : ℕ) → (v ≡ refused n) ↔ GivenBy n rows
  pub otherwise : (v ≡ accepted) ↔ NoneHolds rows

-- and "Every refusal .. leaves state, area and output untouched": all that the call may write is after it as it was before
pub record Refuses (v : Outcome (Unit {0})) (rows : List Row) (Untouched : Type 0) : Type 0 where
  pub exactly : Exactly v rows
  pub untouched : (n : ℕ) → v ≡ refused n → Untouched

-- 3: "lent output shorter than the answer (added)"
abbrev pub shorter : {A B : Type 0} → List A → List B → Row
shorter out answer = row 3 (length out < length answer)
