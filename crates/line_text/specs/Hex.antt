-- Hexadecimal digits "of either case", as bytes of text. Assumes nothing.
use Rattle.std.specs.Prelude.{ℕ, zero, suc, ◌+◌, ◌-◌, ◌*◌, Bool, true, false, cond, List, [], ◌∷◌, get_or, ltb, leb, eqb}

-- what a digit stands for: `0` to `9` (48 to 57), `A` to `F` (65 to 70), `a` to `f` (97 to 102); 16 for a byte that is none
unfoldable pub digit_of : ℕ → ℕ
digit_of c =
    cond (ltb c 48) 16
    (cond (leb c 57) (c - 48)
    (cond (ltb c 65) 16
    (cond (leb c 70) (c - 55)
    (cond (ltb c 97) 16
    (cond (leb c 102) (c - 87) 16)))))

-- whether every byte is a digit
unfoldable pub all_hex : List ℕ → Bool
all_hex [] = true
all_hex (c ∷ s) = cond (eqb (digit_of c) 16) false (all_hex s)

-- the number that n digits from a place on write, the most significant first
unfoldable pub value_at : List ℕ → ℕ → ℕ → ℕ
value_at s at zero = 0
value_at s at (suc n) = value_at s at n * 16 + digit_of (get_or s (at + n) 0)
