-- The bytes held of a line: the first so many of those lent. Assumes nothing.
use Rattle.std.specs.Prelude.{ℕ, suc, cond, List, [], ◌∷◌, length, take, set, ltb}

-- what is lent to hold a line, and how many bytes are held
pub record Holding : Type 0 where
  pub bytes : List ℕ
  pub count : ℕ

abbrev pub holding : List ℕ → ℕ → Holding
holding bytes count = record { bytes = bytes; count = count }

-- the line that is held
abbrev pub held_line : Holding → List ℕ
held_line h = take h.count h.bytes

-- one byte more: held, or passed over where all that is lent holds bytes
unfoldable pub held_on : ℕ → Holding → Holding
held_on b h = cond (ltb h.count (length h.bytes)) (holding (set h.bytes h.count b) (suc h.count)) h

-- bytes one after the other
abbrev pub held_through : List ℕ → Holding → Holding
held_through [] h = h
held_through (b ∷ bytes) h = held_through bytes (held_on b h)
