-- Decimal numbers as bytes of text. Assumes nothing.
use Rattle.std.specs.Prelude.{ℕ, zero, suc, ◌+◌, ◌/◌, ◌%◌, cond, List, [], ◌∷◌, ◌++◌, ltb}

-- the digits of n, the most significant first, where it has at most k + 1 of them; `0` is 48
unfoldable pub digits_within : ℕ → ℕ → List ℕ
digits_within zero n = (48 + n) ∷ []
digits_within (suc k) n = cond (ltb n 10) ((48 + n) ∷ []) (digits_within k (n / 10) ++ ((48 + n % 10) ∷ []))

-- the digits of n, which has at most n + 1 of them
unfoldable pub digits : ℕ → List ℕ
digits n = digits_within n n

-- a space and a number
abbrev pub spaced_number : ℕ → List ℕ
spaced_number n = 32 ∷ digits n

-- numbers, a space before each
unfoldable pub spaced : List ℕ → List ℕ
spaced [] = []
spaced (n ∷ l) = spaced_number n ++ spaced l

-- numbers parted by one space, n and those of a list
abbrev pub started : ℕ → List ℕ → List ℕ
started n l = digits n ++ spaced l

-- the same as a line, which a line feed ends
abbrev pub line_of : ℕ → List ℕ → List ℕ
line_of n l = started n l ++ (10 ∷ [])
