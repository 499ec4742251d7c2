-- Tracked numbers as a list of entries that rises by number: what the proxy's table means. Assumes nothing.
use Rattle.std.specs.Prelude.{ℕ, suc, ◌<◌, ◌≤◌, ◌≡◌, ◌⊎◌, Bool, cond, List, [], ◌∷◌, ◌++◌, ltb, leb, eqb, Option, Some, None, is_some}
use Rattle.proxy_record.specs.declared.Mark.{Mark}

-- a tracked number: "each received at a time or not available"
pub record Entry : Type 0 where
  pub number : ℕ
  pub mark : Mark

-- a number with its mark
abbrev pub marked_entry : ℕ → Mark → Entry
marked_entry n m = record { number = n; mark = m }

-- the numbers are lo or more, below hi, and strictly rising
abbrev pub RisingEntries : ℕ → ℕ → List Entry → Type 0
RisingEntries lo hi [] = Unit {0}
RisingEntries lo hi (x ∷ l) = (lo ≤ x.number) × (x.number < hi) × RisingEntries (suc x.number) hi l

-- the entries with a number below n, and those with n or more
unfoldable pub below : ℕ → List Entry → List Entry
below n [] = []
below n (x ∷ l) = cond (ltb x.number n) (x ∷ below n l) (below n l)

unfoldable pub from : ℕ → List Entry → List Entry
from n [] = []
from n (x ∷ l) = cond (leb n x.number) (x ∷ from n l) (from n l)

-- an entry put "over what was there"
unfoldable pub put_in : Entry → List Entry → List Entry
put_in e l = below e.number l ++ (e ∷ from (suc e.number) l)

-- how many entries at the front have the numbers b, b + 1, ..
unfoldable pub run_len : ℕ → List Entry → ℕ
run_len b [] = 0
run_len b (x ∷ l) = cond (eqb x.number b) (suc (run_len (suc b) l)) 0

-- What the table says of a number

-- its mark, if it is tracked
unfoldable pub look : ℕ → List Entry → Option Mark
look n [] = None
look n (x ∷ l) = cond (eqb x.number n) (Some x.mark) (look n l)

-- whether a number is tracked
abbrev pub is_tracked : ℕ → List Entry → Bool
is_tracked n l = is_some (look n l)

-- an entry of the table has the number
abbrev pub Tracked : ℕ → List Entry → Type 0
Tracked n [] = ⊥
Tracked n (x ∷ l) = (x.number ≡ n) ⊎ Tracked n l
