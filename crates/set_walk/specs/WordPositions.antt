-- For the functions below the public calls: no public promise cites it. Assumes nothing.
use Rattle.std.specs.Prelude.{ℕ, List, [], ◌∷◌}
use Rattle.bitmap.specs.Bitmap.{positions}

-- the set bits of one word, rising
unfoldable pub word_positions : ℕ → List ℕ
word_positions w = positions (w ∷ []) 32
