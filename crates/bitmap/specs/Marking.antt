-- The bits of a made set's words. Assumes nothing.
use Rattle.std.specs.Prelude.{ℕ, cond, List, [], ◌∷◌, ltb}
use Rattle.bitmap.specs.Bitmap.{set_bit}

-- "list members through last are set": in the words, the bit of each element whose place is below the count
abbrev pub set_bits : {A : Type 0} → (A → ℕ) → ℕ → List ℕ → List A → List ℕ
set_bits place count ws [] = ws
set_bits place count ws (x ∷ xs) = set_bits place count (cond (ltb (place x) count) (set_bit ws (place x)) ws) xs
