-- What the exported calls promise: the port's own definitions, with the refusal number as the answer, and what was found behind
-- references and in lent lists. Assumes nothing.
use Rattle.std.specs.Prelude.{ℕ, ◌≡◌, Bool, cond, List}
use Rattle.outcome.specs.Outcome.{Outcome, refused, done, refusal, left}
use Rattle.number_set.specs.declared.set.Taken.{Taken}
use Rattle.number_set.specs.declared.set.NumberSet.{NumberSet}
use Rattle.sequence_number.specs.declared.ByteOrder.{ByteOrder}
use Rattle.sequence_number.specs.declared.ByteOrder.TheVariants.{Big, Little}

-- big: the most significant byte of a word first
abbrev pub order_of : Bool → ByteOrder
order_of b = cond b Big Little

-- what stands behind a reference after a call: what was found, or what was there
abbrev pub found_or : {A : Type 0} → Outcome A → A → A
found_or (refused n) before = before
found_or (done a) before = a

-- the answer is the refusal number, 0 for none, and what is found stands behind the references
pub record Gives {A : Type 0} (x : Outcome A) (before : A) (r : ℕ) (after : A) : Type 0 where
  pub answer : r ≡ refusal x
  pub value : after ≡ found_or x before

-- the same with a lent list, in which an accepted call leaves ms
pub record Lends {A B : Type 0} (x : Outcome A) (ms out : List B) (r : ℕ) (after : List B) : Type 0 where
  pub answer : r ≡ refusal x
  pub entries : after ≡ left x ms out

-- a set, and how many bytes it took, by their parts
abbrev pub set_of : {N : Type 0} → N → ℕ → List ℕ → NumberSet N
set_of base count words = record { base = base; count = count; words = words }

abbrev pub taken_of : {N : Type 0} → N → ℕ → List ℕ → ℕ → Taken N
taken_of base count words taken = record { set = set_of base count words; taken = taken }
