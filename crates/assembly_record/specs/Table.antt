-- What is asked of the table: where a number stands, how many are in assembly, the highest and the lowest number. Assumes nothing.
use Rattle.std.specs.Prelude.{ℕ, suc, max, min, Bool, false, cond, ◌&&◌, List, [], ◌∷◌, length, ltb, eqb, Option, Some, None}
use Rattle.assembly_record.specs.State.{Place}

-- the lowest place that has the number n, or how many places there are; n = 0 finds the lowest free place
abbrev pub find : ℕ → List Place → ℕ
find n [] = 0
find n (p ∷ ps) = cond (eqb p.number n) 0 (suc (find n ps))

-- whether some place has the number n
unfoldable pub has_number : List Place → ℕ → Bool
has_number ps n = ltb (find n ps) (length ps)

-- the lowest place that has the number n, or nothing where none has
abbrev pub found_place : ℕ → List Place → Option ℕ
found_place n ps = cond (has_number ps n) (Some (find n ps)) None

-- "A query says whether a number is in assembly": of one number (`in_assembly` says of how many). 0 stands for a number that row 4 refuses: no sample has it
abbrev pub is_partially_received : List Place → ℕ → Bool
is_partially_received ps n = cond (eqb n 0) false (has_number ps n)

-- at how many places a test holds
abbrev pub how_many : (Place → Bool) → List Place → ℕ
how_many test [] = 0
how_many test (p ∷ ps) = cond (test p) (suc (how_many test ps)) (how_many test ps)

abbrev pub is_taken : Place → Bool
is_taken p = ltb 0 p.number

-- how many numbers are in assembly: what the call `in_assembly` answers
abbrev pub in_assembly : List Place → ℕ
in_assembly ps = how_many is_taken ps

-- how many numbers below n are in assembly
abbrev pub lower : ℕ → List Place → ℕ
lower n ps = how_many (λ (p : Place). is_taken p && ltb p.number n) ps

-- the highest number
abbrev pub highest_of : List Place → ℕ
highest_of [] = 0
highest_of (p ∷ ps) = max p.number (highest_of ps)

-- the lowest number, asked only where no place is free
abbrev pub lowest_of : List Place → ℕ
lowest_of [] = 0
lowest_of (p ∷ []) = p.number
lowest_of (p ∷ (q ∷ ps)) = min p.number (lowest_of (q ∷ ps))

-- "the highest number is dropped (reliable) or the lowest (best effort)"
abbrev pub victim : Bool → List Place → ℕ
victim reliable ps = cond reliable (highest_of ps) (lowest_of ps)
