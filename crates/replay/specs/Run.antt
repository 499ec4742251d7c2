-- What is promised of the program's functions: some bytes were read, and no contract says which. Assumes nothing.
use Rattle.std.specs.Prelude.{◌≡◌, List, ℕ, take}
use Rattle.outcome.specs.Lent.{over}
use Rattle.replay_lines.specs.Feed.{Feeding, fed_through, said_through, lacking}

-- of what a read gave the first so many bytes were fed, and no other
abbrev pub FedFront : List ℕ → Feeding → Feeding → Type 0
FedFront input r r' = (n : ℕ) × (r' ≡ fed_through (take n input) r)

-- what is lent was reached by feeding some bytes: which, no contract says
abbrev pub FedSome : Feeding → Feeding → Type 0
FedSome r r' = (bytes : List ℕ) × (r' ≡ fed_through bytes r)

-- some input was fed, and then the line feed that its last line may lack: what is lent after it, and what was said of that line feed, over what stood in the buffer
pub record RanToEnd (r after : Feeding) (out : List ℕ) : Type 0 where
  pub input : List ℕ
  pub before : List ℕ
  pub fed_is : after ≡ fed_through (lacking (fed_through input r)) (fed_through input r)
  pub out_is : out ≡ over (said_through (lacking (fed_through input r)) (fed_through input r)) before
