-- The bits of a set's words (RTPS 2.5, 9.4.2.6; of fragments 9.4.2.8). Assumes nothing.
use Rattle.std.specs.Prelude.{ℕ, zero, suc, ◌+◌, ◌*◌, ◌/◌, ◌%◌, ◌^◌, ◌-◌, Bool, true, false, not, ◌||◌, List, [], ◌∷◌, ◌++◌, get_or, replicate, set, eqb}

-- whether bit i is set, "from the most significant bit of word 0"; past the words no bit is
abbrev pub has_bit : List ℕ → ℕ → Bool
has_bit ws i = eqb (get_or ws (i / 32) 0 / 2 ^ (31 - i % 32) % 2) 1

-- a word with the bit of 2^s set: added where it is not there yet
abbrev pub with_bit : ℕ → ℕ → ℕ
with_bit w s = w + (1 - w / 2 ^ s % 2) * 2 ^ s

-- the words with bit i set
abbrev pub set_bit : List ℕ → ℕ → List ℕ
set_bit ws i = set ws (i / 32) (with_bit (get_or ws (i / 32) 0) (31 - i % 32))

-- the position of a bit that is set, nothing for one that is not
abbrev pub only_if : Bool → ℕ → List ℕ
only_if true i = i ∷ []
only_if false i = []

-- the set bits below n, rising
abbrev pub positions : List ℕ → ℕ → List ℕ
positions ws zero = []
positions ws (suc n) = positions ws n ++ only_if (has_bit ws n) n

-- "Words held by value number eight": all zero
abbrev pub zero_words : List ℕ
zero_words = replicate 8 0

-- row 4 of the refusal table: whether there is "a member past its type in a set walked", by its position
abbrev pub any_past : (ℕ → Bool) → List ℕ → Bool
any_past fits [] = false
any_past fits (p ∷ ps) = not (fits p) || any_past fits ps
