-- The marks of a place: 256 bits in four words of 64, bit j, from the low end of word 0, for fragment j + 1. Assumes nothing.
use Rattle.std.specs.Prelude.{ℕ, zero, suc, ◌+◌, ◌/◌, ◌%◌, ◌^◌, Bool, true, cond, ◌&&◌, List, [], ◌∷◌, ◌++◌, get_or, set, ltb, leb, eqb}
use Rattle.bitmap.specs.Bitmap.{with_bit}

-- whether bit j is set
unfoldable pub marked : List ℕ → ℕ → Bool
marked m j = eqb (get_or m (j / 64) 0 / 2 ^ (j % 64) % 2) 1

-- bit j set
unfoldable pub with_mark : List ℕ → ℕ → List ℕ
with_mark m j = set m (j / 64) (with_bit (get_or m (j / 64) 0) (j % 64))

-- bits k to k + n - 1 set
abbrev pub mark_run : List ℕ → ℕ → ℕ → List ℕ
mark_run m k zero = m
mark_run m k (suc n) = with_mark (mark_run m k n) (k + n)

-- whether j is one of k to k + n - 1
abbrev pub covers : ℕ → ℕ → ℕ → Bool
covers k n j = leb k j && ltb j (k + n)

-- whether a test holds of every number below n
abbrev pub all_below : (ℕ → Bool) → ℕ → Bool
all_below test zero = true
all_below test (suc n) = all_below test n && test n

-- the fragments from 1 to n that are not marked, rising
abbrev pub gaps : List ℕ → ℕ → List ℕ
gaps m zero = []
gaps m (suc n) = gaps m n ++ cond (marked m n) [] (suc n ∷ [])
