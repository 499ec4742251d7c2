-- Words of four bytes in a stream, in either byte order: what numbers and sets are made of (RTPS 2.5, 9.4.2.5 to 9.4.2.8). Assumes nothing.
use Rattle.std.specs.Prelude.{ℕ, ◌+◌, ◌*◌, ◌/◌, ◌%◌, List, [], ◌∷◌, get_or}
use Rattle.sequence_number.specs.declared.ByteOrder.{ByteOrder}
use Rattle.sequence_number.specs.declared.ByteOrder.TheVariants.{Big, Little}

-- four bytes, the most significant first
abbrev pub big : ℕ → ℕ → ℕ → ℕ → ℕ
big a b c d = ((a * 256 + b) * 256 + c) * 256 + d

-- four bytes as they come
abbrev pub word : ByteOrder → ℕ → ℕ → ℕ → ℕ → ℕ
word Big a b c d = big a b c d
word Little a b c d = big d c b a

-- the word that starts at a place
abbrev pub word_at : ByteOrder → List ℕ → ℕ → ℕ
word_at o s at = word o (get_or s at 0) (get_or s (at + 1) 0) (get_or s (at + 2) 0) (get_or s (at + 3) 0)

-- the four bytes of a word, as they go
abbrev pub word_bytes : ByteOrder → ℕ → List ℕ
word_bytes Big v = v / 16777216 ∷ v / 65536 % 256 ∷ v / 256 % 256 ∷ v % 256 ∷ []
word_bytes Little v = v % 256 ∷ v / 256 % 256 ∷ v / 65536 % 256 ∷ v / 16777216 ∷ []
