-- The layout of the record: 906 words, the fragment size, the place size, the mode (1 reliable, 0 best effort), and 129 rows of seven words: number,
-- size, time and four words of marks. A free place is zero throughout, so that one state has one record. Assumes nothing.
use Rattle.std.specs.Prelude.{ℕ, zero, suc, Bool, cond, List, [], ◌∷◌, ◌++◌, get_or, take, drop, eqb}
use Rattle.assembly_record.specs.Sizes.{place_count, row_size}
use Rattle.assembly_record.specs.State.{Place, Assembler}

-- the words of a state

abbrev pub row_of : Place → List ℕ
row_of p = p.number ∷ (p.size ∷ (p.time ∷ p.marks))

abbrev pub table_of : List Place → List ℕ
table_of [] = []
table_of (p ∷ ps) = row_of p ++ table_of ps

abbrev pub bit : Bool → ℕ
bit b = cond b 1 0

unfoldable pub assembler_words : Assembler → List ℕ
assembler_words a = a.fragment_size ∷ (a.place_size ∷ (bit a.reliable ∷ table_of a.places))

-- the state that words stand for

abbrev pub place_of : List ℕ → Place
place_of l = record { number = get_or l 0 0; size = get_or l 1 0; time = get_or l 2 0; marks = drop 3 l }

abbrev pub rows_of : ℕ → List ℕ → List Place
rows_of zero l = []
rows_of (suc n) l = place_of (take row_size l) ∷ rows_of n (drop row_size l)

unfoldable pub places_of : List ℕ → List Place
places_of w = rows_of place_count (drop 3 w)

abbrev pub assembler_of : List ℕ → Assembler
assembler_of w = record { fragment_size = get_or w 0 0; place_size = get_or w 1 0; reliable = eqb (get_or w 2 0) 1; places = places_of w }
