-- The sizes that document 01 and the layout of the record fix. Assumes nothing.
use Rattle.std.specs.Prelude.{ℕ}

-- "129 places": one more than may stay in assembly
abbrev pub place_count : ℕ
place_count = 129

-- "p is 0 or above 65,536" is refused
abbrev pub largest_place : ℕ
largest_place = 65536

-- "F > 256" is refused
abbrev pub most_fragments : ℕ
most_fragments = 256

-- the words of a place's marks, a bit for each fragment
abbrev pub mark_words : ℕ
mark_words = 4

-- the words of a place: number, size, time and marks
abbrev pub row_size : ℕ
row_size = 7

-- the words of the record: fragment size, place size, mode and a row for each place
abbrev pub assembler_size : ℕ
assembler_size = 906
