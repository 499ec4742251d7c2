-- The assembler's state, free of the layout that the words of the record have. Assumes nothing.
use Rattle.std.specs.Prelude.{ℕ, Bool, List, ◌≡◌, get_or, replicate}
use Rattle.assembly_record.specs.Sizes.{mark_words}

-- A place of the table: the number of the sample that it holds (0 where it is free), the sample's size D, the time that its last accepted fragment
-- stored, and its marks, four words of 64 bits.
pub record Place : Type 0 where
  pub number : ℕ
  pub size : ℕ
  pub time : ℕ
  pub marks : List ℕ

-- "One assembler serves one writer, with fixed fragment size f, mode reliable or best effort, and place size p": f, p, the mode and the 129 places
pub record Assembler : Type 0 where
  pub fragment_size : ℕ
  pub place_size : ℕ
  pub reliable : Bool
  pub places : List Place

-- a free place is zero throughout
abbrev pub free_place : Place
free_place = record { number = 0; size = 0; time = 0; marks = replicate mark_words 0 }

-- place i
abbrev pub place_at : List Place → ℕ → Place
place_at ps i = get_or ps i free_place

-- the same assembler with other places
abbrev pub with_places : Assembler → List Place → Assembler
with_places a ps = record { fragment_size = a.fragment_size; place_size = a.place_size; reliable = a.reliable; places = ps }

-- the second assembler has the fragment size, the place size and the mode of the first: "fixed", no call changes them
pub record Fixed (a b : Assembler) : Type 0 where
  pub fragment_size : b.fragment_size ≡ a.fragment_size
  pub place_size : b.place_size ≡ a.place_size
  pub reliable : b.reliable ≡ a.reliable
