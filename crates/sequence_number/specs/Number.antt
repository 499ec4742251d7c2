-- Which sequence numbers the receiver takes, and how a signed number becomes one of the core's. Assumes nothing.
use Rattle.std.specs.Prelude.{ℕ, Bool, false, cond, ◌&&◌, ltb, ℤ, pos, negsuc, Option, Some, None}

-- 2^63 - 1, the greatest sequence number: it has no successor, so it is never received, marked or tracked
abbrev pub top : ℕ
top = 9223372036854775807

-- row 4 of the refusal table: "number below 1 or equal to 2^63 - 1" is not taken
abbrev pub is_number : ℤ → Bool
is_number (pos n) = ltb 0 n && ltb n top
is_number (negsuc n) = false

-- a signed number that is not negative, and 0 for one that is
abbrev pub nat_of : ℤ → ℕ
nat_of (pos n) = n
nat_of (negsuc n) = 0

-- the number that a call takes, or 0 for one that it refuses
abbrev pub number_of : ℤ → ℕ
number_of n = cond (is_number n) (nat_of n) 0

-- the same, with nothing for one that it refuses: what `number_of` of src/ answers
abbrev pub taken : ℤ → Option ℕ
taken n = cond (is_number n) (Some (nat_of n)) None
