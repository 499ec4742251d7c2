-- A set's count and words on the wire (RTPS 2.5, 9.4.2.6; of fragments 9.4.2.8), after a base of so many bytes. Assumes nothing.
use Rattle.std.specs.Prelude.{ℕ, zero, suc, ◌+◌, ◌*◌, ◌/◌, ◌-◌, cond, List, [], ◌∷◌, ◌++◌, length, get_or, replicate, ltb}
use Rattle.outcome.specs.Outcome.{Outcome, refused, done}
use Rattle.sequence_number.specs.Word.{word_at, word_bytes}
use Rattle.sequence_number.specs.declared.ByteOrder.{ByteOrder}

-- "ceil(count / 32) words"
abbrev pub word_count : ℕ → ℕ
word_count count = (count + 31) / 32

-- "Length is 8 (sequence) or 4 (fragment), plus 4, plus 4 for each word": with a base of so many bytes
abbrev pub set_length : ℕ → ℕ → ℕ
set_length size count = size + 4 + 4 * word_count count

-- the count of the set whose base takes so many bytes: "1 for base or count, 2, 1 for words"
abbrev pub read_count : ℕ → ByteOrder → List ℕ → Outcome ℕ
read_count size o s =
    cond (ltb (length s) (size + 4)) (refused 1)
    (cond (ltb 256 (word_at o s size)) (refused 2)
    (cond (ltb (length s) (set_length size (word_at o s size))) (refused 1)
    (done (word_at o s size))))

-- n words from a place on
abbrev pub words_from : ByteOrder → List ℕ → ℕ → ℕ → List ℕ
words_from o s at zero = []
words_from o s at (suc n) = words_from o s at n ++ (word_at o s (at + 4 * n) ∷ [])

-- "those past the count are zero after reading"
abbrev pub read_words : ByteOrder → List ℕ → ℕ → ℕ → List ℕ
read_words o s at n = words_from o s at n ++ replicate (8 - n) 0

-- the bytes of the first n words
abbrev pub words_bytes : ByteOrder → List ℕ → ℕ → List ℕ
words_bytes o ws zero = []
words_bytes o ws (suc n) = words_bytes o ws n ++ word_bytes o (get_or ws n 0)

-- the bytes of a count and its words
abbrev pub bits_bytes : ByteOrder → ℕ → List ℕ → List ℕ
bits_bytes o count ws = word_bytes o count ++ words_bytes o ws (word_count count)

-- "written: 2, 3", with a base of so many bytes
abbrev pub write_set : ℕ → ℕ → ℕ → Outcome ℕ
write_set size count room =
    cond (ltb 256 count) (refused 2)
    (cond (ltb room (set_length size count)) (refused 3)
    (done (set_length size count)))
